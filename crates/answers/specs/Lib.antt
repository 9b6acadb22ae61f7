-- What an answer is made of, by place.
pub mod Conflict
pub mod Multipliers
pub mod Answer
