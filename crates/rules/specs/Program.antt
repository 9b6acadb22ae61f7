-- docs/RULES.md, "The program".
--   Bytes  bytes as words, and the byte count
--   Text   numbers, answers and refusals as text
--   Reply  all that is printed for an input
pub mod Bytes
pub mod Text
pub mod Reply
