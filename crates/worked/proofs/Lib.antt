-- Texts and files worked by hand come out, by computing. They stand above the rules, so that what is tried on the rules
-- does not compute them again; the worked cases of numbers stand in the rules.
--   Printed  what the program prints
--   Files    files of many problems
--   Sheets   whole sheets
pub mod Printed
pub mod Files
pub mod Sheets
