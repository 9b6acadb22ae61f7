-- One step of the run, by place.
pub mod Step
