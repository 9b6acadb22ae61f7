-- Laws that the proofs cite. Assumes nothing.
pub mod Sums
pub mod Turns
pub mod Rows
pub mod Stands
pub mod Seen
pub mod Shortfalls
pub mod TwoOrders
pub mod Only
