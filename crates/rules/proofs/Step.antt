-- One step: who leaves, who enters, what moves, and what it comes to.
--   Gaps      how far one value is from another
--   Sides     must fall is must rise in the order turned round
--   Leaving   what the search for the leaving variable says
--   Entering  what the search for the entering variable says, and the exchange of the two
--   Cases     the four things that a step comes to
--   Rule      the rule in plain words, with no search function inside
--   Blame     the multipliers of a row that nothing can move, in plain words
--   Means     can: the values meet the problem; cannot: no fractions do
pub mod Gaps
pub mod Sides
pub mod Leaving
pub mod Entering
pub mod Cases
pub mod Rule
pub mod Blame
pub mod Means
