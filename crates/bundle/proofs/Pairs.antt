-- The pairs of a file, one after the other: what a loop over them knows, and what it comes to.
--   PairsPass        the pairs before i are where the rule puts them
--   behind, behind-none, behind_more    the place behind the bodies before i
--   pair-tested   the test of pair i, by the place that the loop has
--   passed-more   one pair more
--   table-pair, table-total, table-fine    refusals 34, 35 and 0
use mathlib.Core.Bool.{Bool, false, not, true, ◌||◌}
use mathlib.Core.List.{List, [], ◌∷◌}
use mathlib.Core.Logic.{◌≢◌}
use mathlib.Core.Path.{◌≡◌, ap, ap₂, subst, sym, ◌∙◌}
use Prim.Native.Nat.{ℕ, ◌+◌, ◌<◌}
use native.Mathlib.Decide.{dec_lt}
use native.Mathlib.Numerals.{add-one}
use native.Mathlib.Omega.{arith}
use lib.IntN.{ℤ, pos, nat_abs, ◌+ℤ◌}
use lib.ListN.{length}
use lib.Signed.{◌≤ℤ◌}
use mir.Facts.{to_z-of_z}
use mir.Syntax.{w32}
use mir.Val.{SFits, of_z, to_z}
use Rattle.whole.specs.Numbers.{eq_z, is_neg}
use Rattle.whole.specs.Tells.{Tells}
use Rattle.whole.proofs.Bools.{or-false, true-false}
use Rattle.whole.proofs.Numbers.Order.{false→le}
use Rattle.whole.proofs.Tells.{tells-eq_z, tells-false, tells-not, tells-some, tells-true}
use Rattle.rules.specs.Refusal.{first}
use Rattle.rules.specs.Bundle.File.{bad_pair, bad_table, bad_total, count_in, head_size, pair_first, pair_length}
use Rattle.rules.specs.Bundle.File.{start_for}
use Rattle.rules.proofs.Refusal.First.{first-hit, first-skip}
use Rattle.rules.proofs.Bundle.Places.{count_before, counts-next, counts-none, sum-counts}

-- a test tells what it is
own-tells : (b : Bool) → Tells b (b ≡ true) (b ≡ false)
own-tells b = record { if-true = λ e. e; if-false = λ e. e; not-both = λ y n. true-false y n }

module _ (ws : List ℤ) where
  abbrev pub PairsPass : ℕ → Type 0
  PairsPass i = (j : ℕ) → j < i → bad_pair ws j ≡ false

  -- the place behind the bodies before i
  abbrev pub behind : ℕ → ℕ
  behind i = head_size (count_in ws) + count_before i (pair_length ws)

  passed-least : (i : ℕ) → PairsPass i → (j : ℕ) → j < i → pos 0 ≤ℤ pair_length ws j
  unfolding bad_pair
  passed-least i h j l = false→le (or-false _ _ (h j l)).0

  start_is : (i : ℕ) → PairsPass i → start_for (count_in ws) (pair_length ws) i ≡ pos (behind i)
  start_is i h =
      ap (λ z. pos (head_size (count_in ws)) +ℤ z) (sum-counts i (pair_length ws) (passed-least i h) i (omega arith))

  pair_is : (i : ℕ) → PairsPass i →
      (is_neg (pair_length ws i) || not (eq_z (pair_first ws i) (pos (behind i)))) ≡ bad_pair ws i
  unfolding bad_pair
  pair_is i h = ap (λ z. is_neg (pair_length ws i) || not (eq_z (pair_first ws i) z)) (sym (start_is i h))

  pub pair-tested : (i : ℕ) → PairsPass i → (f z : ℤ) (at : ℕ) → SFits w32 f → SFits w32 z → f ≡ pair_first ws i →
      z ≡ pair_length ws i → at ≡ behind i → (b : Bool) →
      b ≡ (is_neg (to_z w32 (of_z w32 z)) || not (eq_z (to_z w32 (of_z w32 f)) (pos at))) → b ≡ bad_pair ws i
  pair-tested i h f z at f-fits z-fits f-is z-is at-is b e =
      e ∙ ap (λ n. is_neg (to_z w32 (of_z w32 z)) || not (eq_z (to_z w32 (of_z w32 f)) (pos n))) at-is
      ∙ ap₂ (λ g y. is_neg y || not (eq_z g (pos (behind i)))) (to_z-of_z f-fits ∙ f-is) (to_z-of_z z-fits ∙ z-is)
      ∙ pair_is i h

  pub passed-more : (i : ℕ) → PairsPass i → bad_pair ws i ≡ false → PairsPass (i + 1)
  passed-more i h e j l = elim (dec_lt j i) [
    | yes s ↦ h j s
    | no s ↦ ap (bad_pair ws) (let z : j ≡ i = omega arith in z) ∙ e
  ]

  pub behind-none : behind 0 ≡ head_size (count_in ws)
  behind-none = omega (arith, counts-none (pair_length ws))

  pub behind_more : (i : ℕ) → behind (i + 1) ≡ behind i + nat_abs (pair_length ws i)
  behind_more i = rw add-one (omega (arith, counts-next i (pair_length ws)))

  abbrev pub table_told : ℕ
  table_told = first ((bad_table ws, 34) ∷ (bad_total ws, 35) ∷ [])

  table-tells : Tells (bad_table ws) ((i : ℕ) × (i < count_in ws) × (bad_pair ws i ≡ true)) (PairsPass (count_in ws))
  unfolding bad_table
  table-tells = tells-some (count_in ws) (bad_pair ws) (λ i h. own-tells (bad_pair ws i))

  total-tells : PairsPass (count_in ws) →
      Tells (bad_total ws) (pos (behind (count_in ws)) ≢ pos (length ws)) (pos (behind (count_in ws)) ≡ pos (length ws))
  unfolding bad_total
  total-tells h = rw (start_is (count_in ws) h) (tells-not (tells-eq_z (pos (behind (count_in ws))) (pos (length ws))))

  pub table-pair : (i : ℕ) → i < count_in ws → bad_pair ws i ≡ true → 34 ≡ table_told
  table-pair i h e = sym (first-hit 34 _ (tells-true table-tells (i, h, e)))

  module _ (i : ℕ) (end : i ≡ count_in ws) (h : PairsPass i) (at : ℕ) (at-is : at ≡ behind i) where
    passed : PairsPass (count_in ws)
    passed = subst PairsPass end h

    behind-is : at ≡ behind (count_in ws)
    behind-is = at-is ∙ ap behind end

    pub table-total : at ≢ length ws → 35 ≡ table_told
    table-total n = sym (first-skip 34 _ (tells-false table-tells passed)
        ∙ first-hit 35 _ (tells-true (total-tells passed) (λ e. n (behind-is ∙ ap nat_abs e))))

    pub table-fine : at ≡ length ws → 0 ≡ table_told
    unfolding first
    table-fine e = sym (first-skip 34 ((bad_total ws, 35) ∷ []) (tells-false table-tells passed)
        ∙ first-skip 35 [] (tells-false (total-tells passed) (ap pos (sym behind-is ∙ e))))
