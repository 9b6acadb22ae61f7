-- The tokens of the text that is written for a problem.
--   Spelled  the tokens of a text that is put together
--   Said     the tokens of a problem, by its pieces
--   Written  tokens-written: the tokens of a written text
pub mod Spelled
pub mod Said
pub mod Written
