-- Laws that the proofs cite. Assumes nothing.
pub mod Inside
pub mod Same
pub mod Only
pub mod TwoOrders
pub mod Stands
