-- Laws of the tokens of a text by places.
--   Gaps      one byte more of a gap or of a run
--   Scans     the tokens of a text, one after the other by their places
--   Parts     the bytes between two places, and when they are those of a word
--   Places    where gaps and tokens may end
--   Placed    reading by places is the reading of the rules
--   Follows   a script that is followed, token by token
--   Behind    reading behind tokens that must follow
--   Decimals  bytes compared with the digits of a number, and their value
--   Numerals  a token as a number
pub mod Gaps
pub mod Scans
pub mod Parts
pub mod Places
pub mod Placed
pub mod Follows
pub mod Behind
pub mod Decimals
pub mod Numerals
