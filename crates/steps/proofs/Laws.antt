-- Laws that this crate's proofs, and those of its callers, cite. Assumes nothing.
pub mod Pivot
pub mod Cases
pub mod Stands
pub mod Only
