-- The laws behind the checker of wide evidence. Nothing is assumed.
pub mod Laws
