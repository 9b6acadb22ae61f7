-- Whole numbers: order, tests, sizes, sums, divisors.
--   Order     the order of ℤ
--   Tests     what a test of two signed locals says
--   Sizes     what bounds a result, so that it fits
--   Halves    numbers of half the width, and remainders by 2^32
--   Sums      sums over the numbers below k
--   Divisors  greatest common divisors
--   Division  division toward zero, where it is exact
pub mod Order
pub mod Tests
pub mod Sizes
pub mod Halves
pub mod Sums
pub mod Divisors
pub mod Division
