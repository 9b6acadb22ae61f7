-- Laws that this crate's proofs, and those of its callers, cite.
pub mod Inside
pub mod Order
pub mod Only
