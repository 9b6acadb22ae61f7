-- Laws that the proofs of verdict 1 and verdict 2 cite.
pub mod Weights
pub mod Tests
pub mod Halves
pub mod Shown
pub mod Read
pub mod Judged
pub mod Only
