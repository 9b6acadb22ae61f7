-- Laws that the proofs cite. Assumes nothing.
--   Counts      how many pivots the run has
--   Recording   one pivot of the run more, as three words
--   Refusals    the refusal of a trace, and what is told
--   Only        that what the contract allows is one result
pub mod Counts
pub mod Recording
pub mod Refusals
pub mod Only
