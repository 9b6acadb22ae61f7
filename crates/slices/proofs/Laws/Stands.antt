-- What a slice of the code hands back stands for the state of the rules.
--   Start   a start
--   GoesOn  a continue
pub mod Start
pub mod GoesOn
