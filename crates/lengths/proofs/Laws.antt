-- Laws that this crate's proofs, and those of its callers, cite.
pub mod Keys
pub mod Words
pub mod Only
