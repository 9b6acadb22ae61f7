-- Laws of the exchange. Nothing is assumed.
pub mod Laws
pub mod Only
