-- Laws that this crate's proofs, and those of its callers, cite.
pub mod Layout
pub mod Lines
pub mod Only
