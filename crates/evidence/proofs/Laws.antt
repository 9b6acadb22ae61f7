pub mod Read
pub mod Checks
pub mod Only
