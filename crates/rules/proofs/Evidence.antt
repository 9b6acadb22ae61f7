-- The checker: what it accepts, what that means, and that it accepts the answers of the run (Own).
--   Shows      what its two tests say, in plain facts
--   Same       which numbers of an answer they read
--   Checked    its number, exactly
--   Farkas     multipliers that sum to a contradiction leave no fractions
--   Separate   fractions over denominators of their own reduce to one
--   Satisfied  a fraction put for the small amount makes pairs fractions
--   Means      what the number 8 means
--   Own        the answers of the run are accepted
--   Joined     tests without a branch
pub mod Shows
pub mod Same
pub mod Checked
pub mod Farkas
pub mod Separate
pub mod Satisfied
pub mod Means
pub mod Own
pub mod Joined
