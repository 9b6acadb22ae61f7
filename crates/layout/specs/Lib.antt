-- Where entries lie.
pub mod Layout
