-- What the functions of this crate compute.
pub mod Cells
pub mod Signs
