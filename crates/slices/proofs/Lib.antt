-- The laws behind a start and a continue. Assumes nothing.
pub mod Laws
