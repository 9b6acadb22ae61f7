-- A day's file: refusals exactly, both round trips over bytes, what its bodies are, and what is printed for it.
--   Exactly  what each test means, and that the refusal is the first that applies
--   Places   where bodies stand, as counts
--   Bodies   what the bodies are
--   Head     what stands where in a written file, and both round trips over words
--   Trips    both round trips over bytes
--   Left     what stands in what was lent, afterwards
--   Day      what is printed
pub mod Exactly
pub mod Places
pub mod Bodies
pub mod Head
pub mod Trips
pub mod Left
pub mod Day
