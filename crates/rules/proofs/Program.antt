-- The program's bytes and text.
--   Numbers   a number's text reads back, and how long it is
--   Lengths   how long the texts are
--   Verdicts  which text an answer has
--   Counts    which byte counts are refused
--   Words     bytes and words, there and back
--   Same      which words of an answer its text asks for
--   Replies   what is printed for an input
--   Lent      a text in a lent slice
pub mod Numbers
pub mod Lengths
pub mod Verdicts
pub mod Counts
pub mod Words
pub mod Same
pub mod Replies
pub mod Lent
