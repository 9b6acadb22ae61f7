-- Lists, tables, and loops over the numbers below k.
--   Tables   what stands where in a table
--   Prefix   a list that a loop writes from the front
--   Stores   a run of stores
--   Below    what a search or a test over the numbers below k says
--   Turns    a loop that goes up follows such a search, turn by turn
--   Places   a sum over numbers is one over the places that hold them
--   Pigeons  different things among few
pub mod Tables
pub mod Prefix
pub mod Stores
pub mod Below
pub mod Turns
pub mod Places
pub mod Pigeons
