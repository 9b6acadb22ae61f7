-- The laws behind one pivot. Assumes nothing.
pub mod Laws
