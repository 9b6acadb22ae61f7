-- Reading token by token.
--   Turns     from one state of the reader to another, and how a reading ends
--   Openings  what the fixed texts begin with
--   Rows      the tokens of numbers and rows are read
--   Limits    the tokens of limits are read
--   Taken     the tokens of a whole problem are read
--   Heard     what was read is known from where the reader stands
--   Behind    .. behind a row and behind a number
--   Kept      each token keeps it
--   Ways      from wherever the reader stands there is a way to the end
pub mod Turns
pub mod Openings
pub mod Rows
pub mod Limits
pub mod Taken
pub mod Heard
pub mod Behind
pub mod Kept
pub mod Ways
