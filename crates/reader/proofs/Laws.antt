-- Laws of a reading that goes on or was halted.
--   Flow       tokens that follow, and the next one
--   Decisions  what the next token decides: declarations, relations, names, the end
--   Numbers    a number by its tokens
--   Terms      a number, a term and a relation by the results of calls
--   Pushed     words one behind the other
--   Slots      the words of one limit more
--   Puts       .. in the words of the whole problem
--   Course     from one place of a reading to the next: declarations and rows
--   Bounds     from one limit to the next
--   Limited    one limit by the results of calls
--   Steps      declarations and rows by the results of calls
--   Ends       the array before the first row, and behind the last limit
pub mod Flow
pub mod Decisions
pub mod Numbers
pub mod Terms
pub mod Pushed
pub mod Slots
pub mod Puts
pub mod Course
pub mod Bounds
pub mod Limited
pub mod Steps
pub mod Ends
