-- The promise of the test of verdict 1 leaves nothing open. Nothing is assumed.
pub mod Only
