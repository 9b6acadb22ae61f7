-- Laws of the tokens of a text by places.
pub mod Laws
