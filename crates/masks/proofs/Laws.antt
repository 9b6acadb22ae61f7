-- Laws that the proofs cite. Assumes nothing.
pub mod Bits
pub mod Only
