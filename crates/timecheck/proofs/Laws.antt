--   RowsTold   .. once its words are known to be rows
--   Ranges     a test at each number of a range
--   Cycles     the test for a bad cycle over the words of an answer
--   Only       that what the promise of `check` allows is one number
pub mod RowsTold
pub mod Cycles
pub mod Ranges
pub mod Only
