-- Laws that the proofs share. Assumes nothing.
pub mod Chains
pub mod Only
