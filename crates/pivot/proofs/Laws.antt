-- Laws that this crate's proofs, and those of its callers, cite.
pub mod Ranges
pub mod TwoOrders
pub mod Only
pub mod Divides
pub mod Trial
pub mod Wide
