-- What limits, values and amounts stand for.
pub mod Amounts
