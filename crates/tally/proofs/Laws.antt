-- Laws of the totals of a sheet. Nothing is assumed.
--   Leaders  who has the most pivots, one body more
--   Tallies  how often limits are named, one body more
--   More     all totals, one body more
--   Ready    that sums fit, and which words of an answer a step reads
pub mod Leaders
pub mod Tallies
pub mod More
pub mod Ready
