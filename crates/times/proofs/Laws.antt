pub mod Passing
pub mod Looks
pub mod Due
pub mod Tracing
pub mod Parts
pub mod Answers
pub mod Only
