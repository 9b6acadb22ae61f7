-- docs/RULES.md, "The auditor's sheet": exact totals over the bodies of a day's file.
--   Totals  the totals: plain counts and sums over bodies
--   Text    the lines
--   File    the sheet of a file
--   Facts   what theorems say of bodies, in plain facts
--   Cases   whole sheets, worked by hand
pub mod Totals
pub mod Text
pub mod File
pub mod Facts
pub mod Cases
