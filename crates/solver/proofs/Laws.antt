-- Laws that the proofs cite. Assumes nothing.
pub mod Spends
pub mod Running
pub mod Refusals
pub mod TwoOrders
pub mod Telling
pub mod Only
pub mod Stands
