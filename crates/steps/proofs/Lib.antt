-- The laws behind one step. Assumes nothing.
pub mod Laws
