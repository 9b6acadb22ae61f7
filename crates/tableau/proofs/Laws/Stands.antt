-- By place is by variable.
--   Start  the tableau by place at the start of a run
--   Range  the range test by place
--   Pivot  a pivot by place
pub mod Start
pub mod Range
pub mod Pivot
