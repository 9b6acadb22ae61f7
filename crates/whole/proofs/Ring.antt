-- Identities and orders of ℤ by computing: the tools, and what they stand on.
--   Laws    the laws of a commutative ring that the library lacks
--   Normal  a normal form of ring expressions
--   Reify   the syntax of an expression, found by `search`
--   Nonneg  certificates of order
--   Tools   `ring-at`, `eq-by`, `le-at`: one search each
--   Omega   orders of ℤ through `omega`
pub mod Laws
pub mod Normal
pub mod Reify
pub mod Nonneg
pub mod Tools
pub mod Omega
