-- Laws of a sheet. Nothing is assumed.
--   Told     what the solver told is what one body more asks for
--   Sheets   the lines of the totals are the sheet of a file
pub mod Told
pub mod Sheets
