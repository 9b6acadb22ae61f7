-- The laws that the proofs of `times` stand on. Nothing is assumed.
pub mod Laws
