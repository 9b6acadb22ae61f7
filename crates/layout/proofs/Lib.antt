-- The laws of places and lines. Assumes nothing.
pub mod Laws
