-- What the code of this crate hands back, and what that means by the rules.
pub mod Switching
pub mod Sessions
pub mod Same
