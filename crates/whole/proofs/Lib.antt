-- Laws of whole numbers, lists and values. Nothing is assumed. crates/whole/README.md lists the tools with a line of
-- use each.
--   Ring     identities and orders of ℤ by computing: the tools, and what they stand on
--   Numbers  whole numbers: order, tests, sizes, sums, divisors
--   Lists    lists, tables, and loops over the numbers below k
--   Values   values: what is asked of them, and the instances
--   Bools    what `T`, `&&`, `||` and `not` say as equations
--   Tells    what a test tells, both ways
--   Uses     a use of each tool, to copy
pub mod Ring
pub mod Numbers
pub mod Lists
pub mod Values
pub mod Bools
pub mod Tells
pub mod Uses
