-- docs/RULES.md, "Runs worked by hand": words, and what is expected of them.
--   Expected  the form of a case
--   Limits    cases A to I, strict limits, edges
--   Evidence  strangers' answers, with numbers of one word and of four
--   Slices    runs in slices
--   Sessions  sessions
--   Replays   traces
--   Times     cases J to L, strict rows, strangers' answers
--   All       limit problems, evidence and time rows as one list
--   Program   what is printed on them
--   Bundle    files of many problems
--   Exchange  problems as SMT-LIB text, and read back
--   Edges     calls at the edges, with the output that was lent; sizes, as they are told
pub mod Expected
pub mod Limits
pub mod Evidence
pub mod Slices
pub mod Sessions
pub mod Replays
pub mod Times
pub mod All
pub mod Program
pub mod Bundle
pub mod Exchange
pub mod Edges
