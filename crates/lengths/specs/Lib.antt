-- What lengths, and the words of an answer, stand for.
pub mod Lengths
pub mod Answer
