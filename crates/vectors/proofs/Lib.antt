-- Laws that the proofs share. Nothing is assumed.
pub mod Listing
pub mod Only
