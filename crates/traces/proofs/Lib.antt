-- The laws behind a problem's own trace. Assumes nothing.
pub mod Laws
