-- One read more.
pub mod Filled
