-- Values: what is asked of them, and the instances.
--   Laws       the laws, chains of orders, multiples, sums
--   Instances  whole numbers, and any values with the order turned round
--   Beside     values side by side, the first compared first
--   Mixed      a fraction put for the small amount
pub mod Laws
pub mod Instances
pub mod Beside
pub mod Mixed
