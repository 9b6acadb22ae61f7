-- A problem with some of its limits alone.
--   Limits  those that are kept
--   Words   its words: the others taken out
--   Idle    the limits that a "cannot" names
pub mod Limits
pub mod Words
pub mod Idle
