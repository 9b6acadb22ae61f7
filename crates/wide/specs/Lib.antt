-- What the checker of wide evidence computes, over the tableau type that the problem was read into.
pub mod Reads
