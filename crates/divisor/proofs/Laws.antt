-- Laws that this crate's proofs, and those of its callers, cite.
pub mod Cells
pub mod Signs
pub mod Only
