-- The words of a problem, and its pieces.
--   Tables  lists that words are made of
--   Whole   the words of the pieces of accepted words are those words
--   Marks   rows one behind the other, and the marks of limits
--   Back    fine pieces are those of their words, which are accepted
pub mod Tables
pub mod Whole
pub mod Marks
pub mod Back
