-- A pivot in the full width.
--   Mixes       the sizes of the entries before reduction
--   Reductions  the product, the divisor, the entries divided
pub mod Mixes
pub mod Reductions
