-- The laws behind judging time rows. Assumes nothing.
pub mod Laws
