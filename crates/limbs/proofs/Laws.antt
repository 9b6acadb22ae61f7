--   Numbers    the number of a sum, a difference, a multiple, and after carries
--   Sizes      how large the limbs of these are
--   Stands     limbs that stand for a number
--   Signs      the sign by the limbs
--   Gaps       comparisons by the signs of differences
pub mod Numbers
pub mod Sizes
pub mod Stands
pub mod Signs
pub mod Gaps
