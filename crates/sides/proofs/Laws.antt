-- Laws that this crate's proofs, and those of its callers, cite. Assumes nothing.
pub mod Sides
pub mod Modest
pub mod Only
