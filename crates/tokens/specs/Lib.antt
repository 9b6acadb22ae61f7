-- What the contracts of `tokens` cite.
--   Gaps      how far a gap and a token reach
--   Followed  tokens that must follow
--   Numeral   a token as a number
--   Placed    reading by places
pub mod Gaps
pub mod Followed
pub mod Numeral
pub mod Placed
