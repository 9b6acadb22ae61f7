-- Traces: what each answer about one means, exactly.
--   Masks     a set as a mask, bit by bit
--   Words     the words of a step, and the first that differs
--   Exactly   the answers, of a run from any state
--   Answers   .. and of words
--   Own       a problem's own trace
pub mod Masks
pub mod Words
pub mod Exactly
pub mod Answers
pub mod Own
