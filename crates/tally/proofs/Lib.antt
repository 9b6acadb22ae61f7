-- Laws of `tally`. Nothing is assumed.
--   Bits    a bool as a number
--   Laws    one body more
--   Only    two allowed results are equal
pub mod Bits
pub mod Laws
pub mod Only
