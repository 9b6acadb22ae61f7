-- No arrangement comes twice, so the count is bounded and every run ends.
--   Return        arrangements alone: one that comes twice makes two steps S and T
--   Clash         numbers alone: two such steps contradict each other
--   NoRepeat      so no arrangement comes twice
--   Arrangements  how many arrangements there are
--   Bound         the count is below 3^n times the ways to choose n of m + n
--   Ends          every run ends, and the run that computes is that run
pub mod Return
pub mod Clash
pub mod NoRepeat
pub mod Arrangements
pub mod Bound
pub mod Ends
