-- What the narrow checker accepts, put into wide form, the checker of wide evidence accepts.
--   wide-of-narrow
use mathlib.Core.Bool.{Bool, false, true}
use mathlib.Core.List.{List}
use mathlib.Core.Logic.{inl, inr}
use mathlib.Core.Path.{ap, refl, sym, ◌∙◌, ◌≡◌}
use Prim.Native.Nat.{ℕ, suc, zero, ◌*◌, ◌+◌, ◌-◌, ◌/◌, ◌%◌, ◌<◌, ◌≤◌}
use native.Mathlib.Omega.{arith}
use lib.Dec.{lit≤, ltb}
use lib.IntN.{ℤ, pos}
use lib.ListN.{length}
use lib.Signed.{◌≤ℤ◌}
use Rattle.whole.proofs.Lists.Tables.{table-length}
use Rattle.whole.proofs.Numbers.Sizes.{within-le}
use Rattle.whole.proofs.Numbers.Tests.{under-size}
use Rattle.whole.proofs.Tells.{tells-lt}
use Rattle.whole.specs.Numbers.{Within}
use Rattle.rules.proofs.Evidence.Checked.{checked-accepted}
use Rattle.rules.proofs.Evidence.Same.{refutation-same, solution-same}
use Rattle.rules.proofs.Wide.Checked.{wide-accepted}
use Rattle.rules.proofs.Wide.Numbers.{wide-form-at, wide-form-formed}
use Rattle.rules.specs.Evidence.{checked, denominator_of, lower_part, upper_part, verdict_of}
use Rattle.rules.specs.Facts.Evidence.{Shown}
use Rattle.rules.specs.Facts.Wide.{Formed, ShownWide}
use Rattle.rules.specs.Limit.{Limit}
use Rattle.rules.specs.Problem.{Problem, problem, vars, vars_of, word}
use Rattle.rules.specs.Sizes.{largest_number, largest_numerator}
use Rattle.rules.specs.Wide.{checked_wide, limb_of, numbers_of, wide_at, wide_form}

module _ (P : Problem Limit) (a : List ℤ) where
  abbrev N : ℕ
  N = vars P

  -- the numbers of the answer, one after the other
  slots-within : (Q : ℤ → Type 0) → Q (denominator_of a) → ((v : ℕ) → v < N → Q (lower_part a v)) →
      ((v : ℕ) → v < N → Q (upper_part N a v)) → (slot : ℕ) → slot < numbers_of N → Q (word a (2 + slot))
  slots-within Q d l u slot h = go slot h
    where
      high : (v : ℕ) → v < 2 * N → (b : Bool) → ltb v N ≡ b → Q (word a (3 + v))
      high v k true q = l v ((tells-lt v N).if-true q)
      high v k false q = let m : N ≤ v = (tells-lt v N).if-false q in
          rw (let z : 3 + v ≡ 3 + N + (v - N) = omega arith in z) (u (v - N) (omega arith))

      go : (slot : ℕ) → slot < numbers_of N → Q (word a (2 + slot))
      go zero h = d
      go (suc v) h = rw (let z : 2 + suc v ≡ 3 + v = omega arith in z) (high v (omega arith) (ltb v N) refl)

  lower-at : (v : ℕ) → v < N → lower_part a v ≡ wide_at (wide_form N a) (1 + v)
  lower-at v h = ap (word a) (let z : 3 + v ≡ 2 + (1 + v) = omega arith in z)
      ∙ sym (wide-form-at N a (1 + v) (omega arith))

  upper-at : (v : ℕ) → v < N → upper_part N a v ≡ wide_at (wide_form N a) (1 + N + v)
  upper-at v h = ap (word a) (let z : 3 + N + v ≡ 2 + (1 + N + v) = omega arith in z)
      ∙ sym (wide-form-at N a (1 + N + v) (omega arith))

  verdict : verdict_of (wide_form N a) ≡ verdict_of a
  unfolding wide_form
  verdict = refl

  -- within the largest numerator all the more within 2^126
  formed : Within (denominator_of a) largest_numerator → ((v : ℕ) → v < N → Within (lower_part a v) largest_numerator) →
      ((v : ℕ) → v < N → Within (upper_part N a v) largest_numerator) → (slot : ℕ) → slot < numbers_of N →
      Formed (wide_form N a) slot
  formed d l u slot h = wide-form-formed N a slot h
      (within-le (slots-within (λ z. Within z largest_numerator) d l u slot h) (lit≤ tt))

  modest-within : {z : ℤ} (k : ℕ) → pos k ≤ℤ z → z ≤ℤ pos largest_number → Within z largest_numerator
  modest-within {z} k l m = within-le (record { within = under-size largest_number k z l m }) (lit≤ tt)

  shown-wide-form : Shown P a → ShownWide P (wide_form N a)
  shown-wide-form (inl (e, S)) = record {
    formed = formed (modest-within 1 S.right.least S.most) S.numerators
        (λ v h. within-le (S.smalls v h) (lit≤ tt));
    shown = inl (verdict ∙ e, solution-same P (sym (wide-form-at N a 0 (omega arith))) lower-at upper-at S.right);
  }
  shown-wide-form (inr (e, S)) = record {
    formed = formed (rw S.right.no-denominator (record { within = omega arith }))
        (λ v h. modest-within 0 (S.right.lowers v h).least (S.lowers-most v h))
        (λ v h. modest-within 0 (S.right.uppers v h).least (S.uppers-most v h));
    shown = inr (verdict ∙ e, refutation-same P (sym (wide-form-at N a 0 (omega arith))) lower-at upper-at S.right);
  }

wide-form-long : (N : ℕ) (a : List ℤ) → 6 + 8 * N ≤ length (wide_form N a)
unfolding wide_form
wide-form-long N a = omega (arith, table-length (4 * numbers_of N) (λ k. limb_of (word a (2 + k / 4)) (k % 4)))

pub wide-of-narrow : (ws a : List ℤ) → checked ws a ≡ 8 → checked_wide ws (wide_form (vars_of ws) a) ≡ 8
unfolding problem
wide-of-narrow ws a c = let h = (checked-accepted ws a).0 c in
    (wide-accepted ws (wide_form (vars_of ws) a)).1
    (h.0, wide-form-long (vars_of ws) a, shown-wide-form (problem ws) a h.2)
