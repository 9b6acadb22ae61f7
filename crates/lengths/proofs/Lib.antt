-- The laws behind lengths, and behind the words of an answer. Assumes nothing.
pub mod Laws
