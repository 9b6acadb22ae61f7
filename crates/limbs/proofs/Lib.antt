-- The laws of numbers of four limbs. Nothing is assumed.
pub mod Laws
