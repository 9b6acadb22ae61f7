-- What the code of this crate computes.
pub mod Masks
