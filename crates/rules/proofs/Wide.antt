-- The checker of numbers of four words: what it accepts, what that means, and that narrow evidence is accepted.
--   Numbers   which words a number has, how large it is, and a number's words
--   Checked   its number, exactly
--   Means     what the number 8 means
--   Narrow    what the narrow checker accepts, put into wide form, is accepted
pub mod Numbers
pub mod Checked
pub mod Means
pub mod Narrow
