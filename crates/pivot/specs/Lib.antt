-- What the code of this crate computes, by place.
pub mod Pivot
pub mod TwoOrders
pub mod Asked
pub mod Border
pub mod Trials
