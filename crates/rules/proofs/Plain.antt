-- Where no limit is strict the run over pairs is the run over whole numbers. A map of values that keeps 0, sums,
-- multiples and the order goes through the whole run; the tableau is the same.
--   Keeps    such a map, and what it makes of a problem, a state, an ending
--   Choices  steps and runs as functions of what is chosen; lists and searches, mapped
--   Tests    it goes through values and tests
--   Steps    .. through one step
--   Runs     .. and through the start, the run and a check
--   Answer   so words without a strict mark get the words of the whole numbers
pub mod Keeps
pub mod Choices
pub mod Tests
pub mod Steps
pub mod Runs
pub mod Answer
