--   Reads      the numbers of an answer, as limbs
--   Signs      a multiplier by its sign
--   Shown      the rules of both verdicts as tests one after the other
--   Checks     the checker's number by what was found out in turn
--   Told       what it tells of words that were judged, and of the case that was read
--   Only       that what the promise of `check` allows is one number
pub mod Reads
pub mod Signs
pub mod Shown
pub mod Checks
pub mod Told
pub mod Only
