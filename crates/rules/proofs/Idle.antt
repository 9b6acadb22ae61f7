-- Nothing is idle in a "cannot".
--   Kept     what is kept of a problem
--   Blocked  a row that nothing can move, with one of its limits dropped
--   Alone    limits that cross, with one of them dropped
--   Pairs    so, over pairs, of the answer from any state that is ready
--   Needed   of words, and over fractions: each named limit is needed
--   Enough   and they are enough: alone they are met by no fractions
--   Named    all that a "cannot" names
pub mod Kept
pub mod Blocked
pub mod Alone
pub mod Pairs
pub mod Needed
pub mod Enough
pub mod Named
