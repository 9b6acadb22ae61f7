-- Runs that are cut, switched between, and replayed.
--   Slices   a run in slices is the run
--   Continues  the number and the output of a continue
--   Session  sessions: what holds of each handed back, what an operation changes, the demands of each check
--   Replay   traces: what each answer about one means, exactly
--   Violation  what is shown of a state is its leaving variable
pub mod Slices
pub mod Continues
pub mod Session
pub mod Replay
pub mod Violation
