-- Bits of 32-bit numbers.
--   or-one      a bit above all others is added by `or`
--   no-bit      a number from 32 on has no bit
use mathlib.Core.Bool.{false}
use mathlib.Core.Path.{◌≡◌, ap, sym, ◌∙◌}
use Prim.Native.Nat.{ℕ, ◌+◌, ◌*◌, ◌%◌, ◌≤◌, ◌<◌, ◌^◌}
use native.Mathlib.Nat.{div-eq_of_lt, mod-eq_of_lt, pow-le-pow_right}
use native.Mathlib.Omega.{arith}
use lib.Bits.{bit_or, or_shifted_r}
use lib.Dec.{eqb}
use Rattle.rules.specs.Runs.Replay.{bit_in}

pub or-one : (mask v : ℕ) → v < 32 → mask < 2 ^ v → bit_or mask (1 * 2 ^ v % 4294967296) ≡ mask + 2 ^ v
or-one mask v h k = ap (bit_or mask) (mod-eq_of_lt fits) ∙ or_shifted_r 1 v mask k ∙ (omega arith)
  where
    fits : 1 * 2 ^ v < 4294967296
    fits = let z = pow-le-pow_right {n = 2} (omega arith) {j = 31} (let y : v ≤ 31 = omega arith in y) in
        omega (arith, z)

pub no-bit : (mask v : ℕ) → mask < 4294967296 → 32 ≤ v → false ≡ bit_in mask v
unfolding bit_in
no-bit mask v h k = ap (λ x. eqb (x % 2) 1) (sym (div-eq_of_lt below))
  where
    below : mask < 2 ^ v
    below = let z = pow-le-pow_right {n = 2} (omega arith) {i = 32} k in omega (arith, z, h)
