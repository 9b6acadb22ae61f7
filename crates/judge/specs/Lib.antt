-- What the tests on the words ask.
pub mod Words
