-- What the contracts of `bundle` say.
--   Contents    what the reader tells
--   Lengths     lengths that a file can be made of
--   Opened      the words of a file, and where its bodies stand
pub mod Contents
pub mod Lengths
pub mod Opened
