-- docs/RULES.md, "Time rows".
--   Words   the words, their refusals in order, and the edges that they are
--   Walks   rows as edges, walks along them
--   Passes  shortest distances, computed
--   Cycle   a bad cycle
--   Traces  what looking at rows keeps
--   Answer  the words of an answer, and what `times` promises
--   Check   the checker of such words, from anybody
pub mod Words
pub mod Walks
pub mod Passes
pub mod Cycle
pub mod Traces
pub mod Answer
pub mod Check
