-- Laws of what is shown. Nothing is assumed.
pub mod Laws
