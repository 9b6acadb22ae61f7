-- docs/formats/smtlib.md.
--   Script   a problem as SMT-LIB text
--   Tokens   the tokens of a text
--   Reader   texts read back: the words, or the place of the first token that cannot stand there
--   Refused  that place in plain facts
--   Lab      what the program `lab` prints
pub mod Script
pub mod Tokens
pub mod Reader
pub mod Refused
pub mod Lab
