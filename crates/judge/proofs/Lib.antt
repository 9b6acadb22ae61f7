-- The laws behind the tests on the words. Assumes nothing.
pub mod Laws
