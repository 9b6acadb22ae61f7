-- Laws of `lab`. Nothing is assumed.
--   Laws   what is told of a text that was read
pub mod Laws
