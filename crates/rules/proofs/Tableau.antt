-- The tableau by variable: rows that hold, the pivot, lowest common form.
--   Relation  the relation of a row, and the rows that it makes of the others
--   Units     the n unit solutions; what holds of them holds of all
--   Lowest    the divisor is greatest, and 1 in lowest form
--   InRange   what the range test says
--   Entries   divisor and range test are those of D and the m times n entries
--   Pivot     a pivot keeps the rows
--   Unique    a basic set has one tableau in lowest common form
--   Problem   a tableau has one problem
pub mod Relation
pub mod Units
pub mod Lowest
pub mod InRange
pub mod Entries
pub mod Pivot
pub mod Unique
pub mod Problem
