-- A pivot that the rules choose, by place.
--   Places  where its two variables sit, and who sits where then
--   Cells   each entry by variable is 0, the common number or a cell
--   Mixed   a mixed entry is the solved tableau's
--   Needs   what the code asks for before a pivot
pub mod Places
pub mod Cells
pub mod Mixed
pub mod Needs
