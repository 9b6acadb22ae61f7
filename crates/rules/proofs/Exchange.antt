-- A problem as SMT-LIB text, and read back.
--   Refusals  when writing is refused
--   Lengths   how long a text is
--   Tokens    the tokens of a written text
--   Reader    reading token by token
--   Words     the words of a problem, and its pieces
--   Read      what is written reads back
--   Exact     what is read is what is written, and nothing else
--   Places    where a text is refused, exactly
--   Lab       what the program `lab` prints
--   Cases     whole texts, and refusals of the writer, by computing
--   Worked    texts read back, by computing
pub mod Refusals
pub mod Lengths
pub mod Tokens
pub mod Reader
pub mod Words
pub mod Read
pub mod Exact
pub mod Places
pub mod Lab
pub mod Cases
pub mod Worked
