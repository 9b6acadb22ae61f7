-- What the contracts of `exchange` say of a lent slice of bytes.
--   Pieces  the text of a row from its coefficients, and of limits from their words
--   Sent    what is answered
pub mod Pieces
pub mod Sent
