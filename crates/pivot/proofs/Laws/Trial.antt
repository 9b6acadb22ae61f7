-- A divisor that is tried.
--   Border    one formula gives the cells of all four kinds
--   Columns   a column of quotients that is written
--   Trying    what is known of a divisor that is tried
--   Settling  the divisor that trials settle on is the pivot's
pub mod Border
pub mod Columns
pub mod Trying
pub mod Settling
