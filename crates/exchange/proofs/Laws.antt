-- Laws of the exchange.
--   Pieces  rows and limits, from words
--   Sent    what is answered
pub mod Pieces
pub mod Sent
