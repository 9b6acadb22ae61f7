-- The definitions on whole numbers, lists, values and tests that the rules and the contracts cite. A reader of the
-- rules reads these too, but for `filled` and `AllWithin`: only contracts of code, which no rule stands on, cite those.
pub mod Below
pub mod Sums
pub mod Tables
pub mod Divisors
pub mod Numbers
pub mod Values
pub mod Tells
