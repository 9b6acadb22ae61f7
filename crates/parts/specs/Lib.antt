-- What the checker's parts compute, over the tableau type that the problem was read into.
pub mod Reads
