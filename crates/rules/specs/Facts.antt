-- What theorems speak of: the rules once more, in plain facts. Nothing here computes.
--   Refusal    the tables of refusals, line by line
--   Rule       who leaves, who enters, what moves
--   Blame      the multipliers of a row that nothing can move
--   State      what is known of a state
--   Tableau    the one tableau of a basic set
--   Range      in range, and out of range
--   Run        that the answer is the run
--   Answer     what every answer is
--   Runs       runs that are cut, switched between, and replayed
--   Fractions  fractions over denominators of their own
--   Evidence   the checker, sentence by sentence, and what an accepted answer means
--   Wide       the checker of wide evidence, likewise
pub mod Refusal
pub mod Rule
pub mod Blame
pub mod State
pub mod Tableau
pub mod Range
pub mod Run
pub mod Answer
pub mod Runs
pub mod Fractions
pub mod Evidence
pub mod Wide
