-- The states of a run, and what is known of each.
--   State    what follows from what is known of a state
--   Begin    where a variable starts, by its limits
--   Start    the start: its rows hold, its values are within limits
--   Steady   a step keeps a state sound
--   Numbers  a step keeps lowest form, range, and how many are seated
--   Once     a run ends once, and parts of it join
--   Started  the start of a problem, in plain words
pub mod State
pub mod Begin
pub mod Start
pub mod Steady
pub mod Numbers
pub mod Once
pub mod Started
