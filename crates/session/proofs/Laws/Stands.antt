-- What a session of the code hands back stands for the session of the rules.
--   Furnished  a tableau with other values and limits
--   Settled    other limits on, and one variable settled by them
--   Open       opening
--   Switch     a switch
--   Check      a check
pub mod Furnished
pub mod Settled
pub mod Open
pub mod Switch
pub mod Check
