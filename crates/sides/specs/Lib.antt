-- A value against limits that may be missing.
pub mod Sides
