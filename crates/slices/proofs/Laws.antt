-- Laws that the proofs cite. Assumes nothing.
pub mod Problem
pub mod Only
pub mod Stands
