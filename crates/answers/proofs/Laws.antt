-- Laws that this crate's proofs, and those of its callers, cite. Assumes nothing.
pub mod Pull
pub mod Needs
pub mod Write
pub mod Only
pub mod Stands
