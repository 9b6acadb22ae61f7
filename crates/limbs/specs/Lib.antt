-- What the functions of this crate compute.
pub mod Limbs
