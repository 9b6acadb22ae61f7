-- The laws behind the search. Assumes nothing.
pub mod Laws
