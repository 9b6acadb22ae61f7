-- Runs that are cut, switched between, and replayed, in plain facts.
--   Slices   a run that is cut anywhere
--   Session  opening, switches and checks
--   Replay   what each answer about a trace says
--   Violation  what is shown of a state
pub mod Slices
pub mod Session
pub mod Replay
pub mod Violation
