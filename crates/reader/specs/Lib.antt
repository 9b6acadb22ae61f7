-- What the contracts of `reader` cite.
--   Flow     a reading that goes on or was halted, and its next token
--   Numbers  a number by its tokens
--   Course   where a reading stands, and the words so far
--   Limits   one limit
--   Taken    the answer, and the slice afterwards
pub mod Flow
pub mod Numbers
pub mod Course
pub mod Limits
pub mod Taken
