-- Time rows: refusals exactly, times or a bad cycle and never both, and what each means.
--   Refused  each line of the table of refusals, exactly
--   Passes   what looking at rows keeps, and the way back to a bad cycle
--   Decide   the passes decide: shortest distances, or a bad cycle
--   Smalls   small parts of shortest distances are few
--   Means    what the two answers mean
--   Tested   the test for a bad cycle is exact
--   Unique   what the promise leaves open, and what not
--   Told     the words of an answered output
--   Separate  times over denominators of their own
--   Checked  the number of the checker of evidence, exactly
--   Shown    what its number 8 means
--   Own      the answers of `times` get 8
pub mod Refused
pub mod Passes
pub mod Decide
pub mod Smalls
pub mod Means
pub mod Tested
pub mod Unique
pub mod Told
pub mod Separate
pub mod Checked
pub mod Shown
pub mod Own
