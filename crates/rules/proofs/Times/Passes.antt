-- Passes over the rows, in whatever arrays distances are held, and the way back.
--   Still    distances that no row betters are the shortest
--   Traced   what looking at rows keeps
--   Falling  a cycle of rows that bettered their heads last is bad
--   Trail    the way back along such rows
--   Closed   where it meets a vertex again it has closed a bad cycle
pub mod Still
pub mod Traced
pub mod Falling
pub mod Trail
pub mod Closed
