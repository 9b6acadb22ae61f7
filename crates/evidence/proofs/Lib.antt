-- The laws behind the checker. Nothing is assumed.
pub mod Laws
