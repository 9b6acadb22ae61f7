-- The promise of the test of verdict 2 leaves nothing open. Nothing is assumed.
pub mod Only
