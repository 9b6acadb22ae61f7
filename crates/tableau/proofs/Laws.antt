-- Laws that this crate's proofs, and those of its callers, cite.
pub mod Live
pub mod Exchange
pub mod Only
pub mod Read
pub mod Fits
pub mod TwoOrders
pub mod Pivot
pub mod Stands
