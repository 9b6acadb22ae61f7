-- The laws behind the words of an answer. Assumes nothing.
pub mod Laws
