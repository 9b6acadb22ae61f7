-- The words of an answer.
--   Run         the answer is the run; crossed limits
--   Crossing    crossed limits by their numbers and marks
--   Cases       the four answers there are, with what each knows
--   Shape       3 + 2N words, verdict 1 to 3, the zeros
--   OutOfRange  verdict 3 exactly where the next tableau is too large
pub mod Run
pub mod Crossing
pub mod Cases
pub mod Shape
pub mod OutOfRange
