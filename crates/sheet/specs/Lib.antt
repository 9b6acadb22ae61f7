-- What the contracts of `sheet` cite.
--   Lines  the lines, from the struct
pub mod Lines
