-- The rules of docs/RULES.md as definitions. Whoever reads these files and that page side by side finds each sentence:
-- once as what computes and, where theorems of docs/PROMISES.md speak of it, once more in plain words (Facts). No file
-- here stands on a proof.
--   Sizes     each number of the rules, once
--   Limit     the limits of a variable, by its kind
--   Problem   the words of a problem
--   Refusal   refusals in their order
--   Tableau   the tableau by variable, and the pivot
--   Step      the start, who leaves, who enters, one step
--   Run       the steps one after the other
--   Answer    the words of an answer
--   Plain     the run where no limit is strict
--   Runs      runs that are cut, switched between, and replayed
--   Evidence  the checker
--   Wide      the checker of numbers of four words
--   Keeping   a problem with some of its limits alone
--   Times     time rows
--   Program   bytes and text
--   Bundle    a day's problems in one file
--   Exchange  a problem as SMT-LIB text
--   Sheet     the auditor's sheet
--   Facts     what theorems speak of, in plain facts
--   Cases     cases worked by hand
pub mod Sizes
pub mod Limit
pub mod Problem
pub mod Refusal
pub mod Tableau
pub mod Step
pub mod Run
pub mod Answer
pub mod Plain
pub mod Runs
pub mod Evidence
pub mod Wide
pub mod Keeping
pub mod Times
pub mod Program
pub mod Bundle
pub mod Exchange
pub mod Sheet
pub mod Facts
pub mod Cases
