-- Laws of `bundle`. Nothing is assumed.
--   Pairs    the pairs of a file, one after the other
--   Files    the refusal of a file, test after test, and of a reader
--   Heads    the head of a file, filled word by word
--   Told     what a reader hands back
--   Writers  the refusal of a writer, test after test
--   Parts    bodies as parts of the words
--   Trips    what was written is read again, over the promises
--   Only     two allowed results are equal
pub mod Pairs
pub mod Files
pub mod Heads
pub mod Told
pub mod Writers
pub mod Parts
pub mod Trips
pub mod Only
