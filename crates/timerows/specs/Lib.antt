-- What judging and reading time rows ask and promise.
pub mod Judged
