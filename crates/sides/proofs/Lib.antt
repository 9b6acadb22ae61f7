-- The laws behind the sides. Assumes nothing.
pub mod Laws
