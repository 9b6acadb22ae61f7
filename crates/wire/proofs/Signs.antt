-- A number of 32 bits as a signed word: what the machine reads from the bits is what the rule says.
use Rattle.std.proofs.Common.{◌≡◌, ◌^◌, ◌<◌, ◌≤◌, ℕ, arith, refl, w32, to_z}
use borrow.Author.Tests.{lt-ltb, le-ltb}
use native.Mathlib.Decide.{dec_lt}
use Rattle.rules.specs.Program.Bytes.{signed}

pub signed-is : (u : ℕ) → u < 2 ^ 32 → to_z w32 u ≡ signed u
unfolding signed
signed-is u h = elim (dec_lt u (2 ^ 31)) [
  | yes l ↦ rw (lt-ltb u (2 ^ 31) l) refl
  | no l ↦ let m : 2 ^ 31 ≤ u = omega arith in rw (le-ltb u (2 ^ 31) m, lt-ltb u 4294967296 h) refl
]
