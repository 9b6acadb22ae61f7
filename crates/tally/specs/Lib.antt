-- What the contracts of `tally` cite.
--   Counting  one body more, over the struct
--   Sums      the totals of k bodies, as the struct holds them
pub mod Counting
pub mod Sums
