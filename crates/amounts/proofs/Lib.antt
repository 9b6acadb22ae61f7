-- The laws behind limits, values and amounts. Assumes nothing.
pub mod Laws
