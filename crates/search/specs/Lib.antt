-- The search for the next pivot, by place, and what it finds.
pub mod Search
pub mod Shortfall
