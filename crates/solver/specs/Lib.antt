-- What the code of this crate computes, by place, and what it promises of the rules' run.
pub mod Run
pub mod Spend
pub mod TwoOrders
pub mod Came
