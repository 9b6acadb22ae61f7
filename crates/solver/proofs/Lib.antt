-- The laws behind the run and its answer. Assumes nothing.
pub mod Laws
