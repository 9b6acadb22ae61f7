-- What the code of this crate computes, and what it promises by the rules.
pub mod Violations
