-- Editions by their numbers.
pub mod Numbered
