-- Laws of `sheet`. Nothing is assumed.
--   Laws    the totals, and their lines
--   Only    two allowed results are equal
pub mod Laws
pub mod Only
