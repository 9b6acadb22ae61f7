-- The theory of the rules, in folders named after the definitions that it is about. Nothing is assumed.
--   Refusal      refusals 1 to 7 and 10: each line of the table, exactly
--   Tableau      the tableau by variable: rows that hold, the pivot, lowest common form
--   Step         one step: who leaves, who enters, what moves, and what it comes to
--   Run          the states of a run, and what is known of each
--   Termination  no arrangement comes twice, so the count is bounded and every run ends
--   Answer       the words of an answer
--   Evidence     the checker: what it accepts, what that means, and that it accepts the answers of the run (Own)
--   Wide         the checker of wide evidence: what it accepts, and what that means
--   Idle         nothing is idle in a "cannot"
--   Plain        where no limit is strict, the run over pairs is the run over whole numbers
--   Runs         runs that are cut, switched between, and replayed
--   Times        time rows: refusals exactly, times or a bad cycle and never both, and what each means
--   Program      the program's bytes and text
--   Bundle       a day's file: refusals exactly, both round trips over bytes, its bodies, its text
--   Exchange     a problem as SMT-LIB text, and read back
--   Sheet        the auditor's sheet: its classes, the largest, its length, the sheet of a file
--   Worked       every worked case and edge is right, by computing
--   Demands      the demands of docs/RULES.md, at the level of words
pub mod Refusal
pub mod Tableau
pub mod Step
pub mod Run
pub mod Termination
pub mod Answer
pub mod Evidence
pub mod Wide
pub mod Idle
pub mod Plain
pub mod Runs
pub mod Times
pub mod Program
pub mod Bundle
pub mod Exchange
pub mod Sheet
pub mod Worked
pub mod Demands
