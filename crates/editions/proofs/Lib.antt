-- What the proofs of `editions` share, and that its promises leave one result.
mod Editions
pub mod Only
