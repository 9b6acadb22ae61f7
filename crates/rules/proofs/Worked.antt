-- Every worked case, edge and size is right, by computing.
--   All       limit problems, evidence and time rows
--   Slices    runs in slices
--   Sessions  sessions
--   Replays   traces
--   Edges     calls at the edges, with the output that was lent; sizes, as they are told
pub mod All
pub mod Slices
pub mod Sessions
pub mod Replays
pub mod Edges
