-- What the steps of `times` ask and promise. The promise of `times` itself stands in the rules (Times.antt).
pub mod Steps
