-- What is asked of single words.
pub mod Sizes
