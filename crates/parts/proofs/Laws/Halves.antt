-- The two halves of an answer.
--   second-half    past one word for each variable, the small parts stand where the answer has the numerators
--   window         a number of a part of an answer
--   lent-half      the part of the answer that is lent for it
--   zeros-hold     zeros are within any range, and the rows hold of them
use mathlib.Core.Path.{◌≡◌, ap, fun_ext, sym, ◌∙◌}
use mathlib.Core.Bool.{true}
use mathlib.Core.List.{List}
use Prim.Native.Nat.{ℕ, ◌+◌, ◌-◌, ◌<◌}
use native.Mathlib.Omega.{arith}
use lib.IntN.{ℤ, *ℤ-zero, pos, ◌*ℤ◌}
use lib.ListN.{drop, length, length-drop, take}
use lib.Seq.{get_or-drop, take_all}
use Rattle.std.proofs.lemmas.List.{get_or-take}
use Rattle.whole.proofs.Lists.Below.{all-each, all_of}
use Rattle.whole.proofs.Bools.{and-of}
use Rattle.whole.proofs.Numbers.Sums.{sum-zero}
use Rattle.whole.proofs.Tells.{tells-eq_z, tells-true, tells-within}
use Rattle.rules.specs.Problem.{word}
use Rattle.rules.specs.Evidence.{lower_part, upper_part}
use Rattle.layout.specs.Layout.{entry_in}
use Rattle.parts.specs.Reads.{half_holds, is_zero, numerators_fit, row_up_to, rows_hold}

pub second-half : (a : List ℤ) (variables : ℕ) → lower_part (drop variables a) ≡ upper_part variables a
second-half a variables = fun_ext (λ v. get_or-drop variables a (3 + v) (pos 0)
    ∙ ap (word a) (let z : variables + (3 + v) ≡ 3 + variables + v = omega arith in z))

pub lent-half : (a : List ℤ) (variables : ℕ) → take (length a - variables) (drop variables a) ≡ drop variables a
lent-half a variables = take_all (length a - variables) (drop variables a) (simp length-drop (omega arith))

-- a number of a part of so many words
pub window : (xs : List ℤ) (from n i : ℕ) → i < n →
    word (take (from + n - from) (drop from xs)) i ≡ word xs (from + i)
window xs from n i h = get_or-take (from + n - from) (drop from xs) i (pos 0) (omega arith)
    ∙ get_or-drop from xs i (pos 0)

module _ (entries a : List ℤ) (rows columns : ℕ) (z : is_zero a (columns + rows) ≡ true) where
  each-zero : (v : ℕ) → v < columns + rows → lower_part a v ≡ pos 0
  each-zero v h = (tells-eq_z (lower_part a v) (pos 0)).if-true (all-each _ _ z v h)

  zeros-fit : (largest : ℕ) → numerators_fit largest a (columns + rows) ≡ true
  zeros-fit largest = all_of _ _ (λ v h. tells-true (tells-within largest (lower_part a v))
      (rw (each-zero v h) (record { within = omega arith })))

  zero-rows : rows_hold entries a rows columns ≡ true
  unfolding row_up_to
  zero-rows = all_of _ _ (λ i h. tells-true (tells-eq_z (lower_part a (columns + i)) _)
      (each-zero (columns + i) (omega arith) ∙ sym (sum-zero columns _ (λ j k.
      ap (λ x. entry_in rows columns entries i j *ℤ x) (each-zero j (omega arith))
      ∙ *ℤ-zero (entry_in rows columns entries i j)))))

  pub zeros-hold : (largest : ℕ) → half_holds largest entries a rows columns ≡ true
  zeros-hold largest = and-of (zeros-fit largest) zero-rows
