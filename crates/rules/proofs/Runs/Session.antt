-- Sessions: what holds of each that opening or an operation handed back, what an operation changes, and the
-- demands of each check, over the limits that are on.
--   Inside    where a nonbasic variable goes after a switch
--   Opened    what opening hands back
--   Fair      a check may start from every session handed back
--   Switched  what a switch does, exactly
--   Handed    the problem, the flags and the values of every session handed back
--   Checked   the demands of a check over pairs
--   Sliced    a check is one slice with pivots enough
--   Like      problems with the same rows and limits have the same evidence
--   Live      the words with the limits that are off taken out
--   Demands   the demands of a check over fractions, and over words
pub mod Inside
pub mod Opened
pub mod Fair
pub mod Switched
pub mod Handed
pub mod Checked
pub mod Sliced
pub mod Like
pub mod Live
pub mod Demands
