-- The laws of the tests that both kinds of evidence are put to. Nothing is assumed.
pub mod Laws
