-- Laws that this crate's proofs, and those of its callers, cite.
pub mod Judged
pub mod Only
pub mod Tests
