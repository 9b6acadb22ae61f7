-- What the code of this crate computes, by place, and what it stands for.
pub mod Parts
pub mod Pivot
pub mod Start
pub mod Stands
pub mod TwoOrders
