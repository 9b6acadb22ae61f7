-- Laws of `days`. Nothing is assumed.
--   Days     the text of a file, body after body
--   Only     two allowed results are equal
pub mod Days
pub mod Only
