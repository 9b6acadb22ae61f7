-- What a test of two signed locals says. The flag of a branch is `lt_z (to_z w (of_z w a)) (to_z w (of_z w b))`, since
-- a
-- signed local holds bits.
--   test-lt, test-nlt, test-eq                      the branch, as an order of the two numbers, at any width
--   le_z-true, le_z-false                             the same of a plain test
--   above, own-size, under-size, not_neg                 what an order says of a number's size, which omega reads
use mathlib.Core.Path.{◌≡◌, refl, sym, ◌∙◌, ap, ap₂}
use mathlib.Core.Bool.{true, false}
use Prim.Native.Nat.{ℕ, ◌≤◌, ◌<◌}
use native.Mathlib.Omega.{arith}
use lib.Dec.{T, leb→le, ltb→lt}
use lib.Signed.{lt_z, le_z, non_neg, ◌<ℤ◌, ◌≤ℤ◌, le_z_yes}
use lib.IntN.{ℤ, pos, negsuc, neg_ℤ, nat_abs}
use mir.Syntax.{Width}
use mir.Val.{SFits, of_z, to_z}
use mir.Facts.{to_z-of_z}
use Rattle.whole.proofs.Numbers.Order.{le_z-no, true→lt, false→le}

pub le_z-true : {a b : ℤ} → le_z a b ≡ true → a ≤ℤ b
le_z-true e = le_z_yes (rw e tt)

pub le_z-false : {a b : ℤ} → le_z a b ≡ false → b <ℤ a
le_z-false {a} {b} e = le_z-no {a = a} {b = b} (rw e tt)

module _ (w : Width) {a b : ℤ} (f : SFits w a) (g : SFits w b) where
  pub test-lt : lt_z (to_z w (of_z w a)) (to_z w (of_z w b)) ≡ true → a <ℤ b
  test-lt e = true→lt (ap₂ lt_z (sym (to_z-of_z f)) (sym (to_z-of_z g)) ∙ e)

  pub test-nlt : lt_z (to_z w (of_z w a)) (to_z w (of_z w b)) ≡ false → b ≤ℤ a
  test-nlt e = false→le {a = b} {b = a} (ap₂ lt_z (sym (to_z-of_z f)) (sym (to_z-of_z g)) ∙ e)

  pub test-eq : of_z w a ≡ of_z w b → a ≡ b
  test-eq e = sym (to_z-of_z f) ∙ ap (to_z w) e ∙ to_z-of_z g

-- at least a natural number: it is its own size
pub above : (k : ℕ) (z : ℤ) → pos k ≤ℤ z → k ≤ nat_abs z
above k (pos n) h = leb→le k n h.le
above k (negsuc n) h = absurd h.le

pub own-size : (k : ℕ) (z : ℤ) → pos k ≤ℤ z → z ≡ pos (nat_abs z)
own-size k (pos n) h = refl
own-size k (negsuc n) h = absurd h.le

-- at most a natural number, and not below zero
pub under-size : (k l : ℕ) (z : ℤ) → pos l ≤ℤ z → z ≤ℤ pos k → nat_abs z ≤ k
under-size k l (pos n) g h = leb→le n k h.le
under-size k l (negsuc n) g h = absurd g.le

pub not_neg : (k : ℕ) (z : ℤ) → pos k ≤ℤ z → T (non_neg z)
not_neg k (pos n) h = tt
not_neg k (negsuc n) h = h.le

not-under-zero : (n : ℕ) → n < 0 → ⊥
not-under-zero n h = omega arith

pub neg-not-neg : (z : ℤ) → z <ℤ pos 0 → T (non_neg (neg_ℤ z))
neg-not-neg (pos n) h = absurd (not-under-zero n (ltb→lt n 0 h.lt))
neg-not-neg (negsuc n) h = tt
