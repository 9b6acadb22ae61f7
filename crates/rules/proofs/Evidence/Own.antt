-- The checker accepts what the run answers with verdict 1 or 2.
--   Seats     the values that nonbasic variables sit at
--   Can       the numerators of a state where none leaves
--   Terms     the numbers that multipliers are made of
--   Stuck     what the limits of a row that nothing can move sum to, over any values
--   Gain      .. and over pairs, as the checker tests it
--   Cannot    the multipliers of such a row
--   Crossed   the multipliers of limits that cross
--   Words     evidence in the words of an answer
--   Accepted  so each answer with verdict 1 or 2 gets 8
pub mod Seats
pub mod Can
pub mod Terms
pub mod Stuck
pub mod Gain
pub mod Cannot
pub mod Crossed
pub mod Words
pub mod Accepted
