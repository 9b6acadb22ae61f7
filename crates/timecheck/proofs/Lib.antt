-- The theory and the laws behind the checker of evidence about time rows. Nothing is assumed.
pub mod Laws
