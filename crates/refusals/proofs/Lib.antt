-- What the numbers of refusals tell.
pub mod Only
pub mod Refused
