-- Laws that the proofs cite. Assumes nothing.
--   Compared   the words of a step, by the sets before and after it
--   Turn       one pivot of the run without a look
--   Following  one step of the run more
--   Refusals   the refusal of a trace
--   Only       that what the contract allows is one result
pub mod Compared
pub mod Turn
pub mod Following
pub mod Refusals
pub mod Only
