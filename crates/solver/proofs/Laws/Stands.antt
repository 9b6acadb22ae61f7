-- By place is by variable.
--   Run     the run goes as the run of the state
--   Came    .. with so many pivots to spend
--   Told    the words of a run that is over
--   Slices  what spending pivots comes to, on the way of a run
pub mod Run
pub mod Came
pub mod Told
pub mod Slices
