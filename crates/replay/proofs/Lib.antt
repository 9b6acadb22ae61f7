-- The laws behind a replay. Assumes nothing.
pub mod Laws
