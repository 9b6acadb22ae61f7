-- By place is by variable.
--   Halves   the two halves of an answer
--   Crossed  limits that cross
pub mod Halves
pub mod Crossed
