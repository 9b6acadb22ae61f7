-- Refusals 1 to 7 and 10: each line of the table, exactly.
--   First     a list of tests with their numbers: the first that applies
--   Exactly   what each test means, and that the refusal is the first that applies
--   Accepted  what accepted words hold: sizes, coefficients, limits
pub mod First
pub mod Exactly
pub mod Accepted
