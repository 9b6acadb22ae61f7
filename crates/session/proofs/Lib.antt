-- The laws behind opening, a switch and a check. Assumes nothing.
pub mod Laws
