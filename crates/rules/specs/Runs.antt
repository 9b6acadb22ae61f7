-- Runs that are cut, switched between, and replayed.
--   Slices   the run in slices
--   Session  limits switched on and off
--   Replay   another solver's trace
--   Trace    a problem's own trace
--   Violation  what a desk is shown of a state
pub mod Slices
pub mod Session
pub mod Replay
pub mod Trace
pub mod Violation
