-- Laws of what is shown, and that promises leave one result.
--   Shown   what the search finds is what is shown, by place and by variable
--   Only    two results that a promise allows are equal
pub mod Shown
pub mod Only
