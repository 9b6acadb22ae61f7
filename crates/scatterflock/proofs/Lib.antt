-- Laws over the promises of the C face. Nothing is assumed.
pub mod Accepted
pub mod Only
pub mod Sliced
