-- What the contracts of `vectors` say of the words that it reads and prints.
pub mod Listed
