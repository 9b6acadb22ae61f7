-- The auditor's sheet.
--   Classes  each body is in one class, and the classes sum to the bodies
--   Largest  the largest of the pivots, and the body that it names
--   Fits     how large the totals are
--   Short    how long the sheet is
--   File     the sheet of a file
pub mod Classes
pub mod Largest
pub mod Fits
pub mod Short
pub mod File
