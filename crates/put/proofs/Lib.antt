-- Laws of texts put into a lent slice. Nothing is assumed.
pub mod Texts
pub mod Only
