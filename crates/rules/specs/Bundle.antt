-- docs/RULES.md, "A day's file": many problems in one file.
--   File    the words of a file, its refusals, and what it holds
--   Writer  the file that lengths and words make, and the writer's refusals
--   Day     what is printed for a file
--   Facts   the tables of refusals in plain words, what they leave, and the two round trips
pub mod File
pub mod Writer
pub mod Day
pub mod Facts
