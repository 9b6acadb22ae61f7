-- The laws behind masks. Assumes nothing.
pub mod Laws
