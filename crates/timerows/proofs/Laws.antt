-- Laws that this crate's proofs cite, and that its promises leave nothing open.
pub mod Faults
pub mod Fine
pub mod Only
