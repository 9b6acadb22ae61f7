-- What the numerators and the multipliers need holds of a tableau that a search could read.
--   smalls-nought     where no limit is strict, the numerators of the small parts are zeros
use mathlib.Core.Bool.{Bool, false, true}
use mathlib.Core.List.{◌∷◌, ◌++◌}
use mathlib.Core.Path.{◌≡◌, ap, refl, sym, ◌∙◌}
use Prim.Native.Nat.{ℕ, zero, suc, ◌+◌, ◌≤◌, ◌<◌}
use native.Mathlib.Omega.{arith}
use lib.IntN.{pos, *ℤ-zero, ◌*ℤ◌}
use lib.ListN.{drop, replicate}
use Rattle.whole.specs.Tables.{filled, table_from}
use Rattle.whole.proofs.Lists.Prefix.{filled-same}
use Rattle.rules.specs.Sizes.{most_variables}
use Rattle.tableau.specs.declared.Tableau.{Tableau}
use Rattle.tableau.specs.Parts.{column_of, row_of, seat_at, small_at}
use Rattle.search.specs.Search.{Searchable, scaled_at}
use Rattle.search.proofs.Laws.Sums.{row-nothing}
use Rattle.answers.specs.Answer.{noughts, numerator_at, numerator_from, numerator_laid}
use Rattle.answers.specs.Answer.{numerators_at, numerators_laid}

-- zeros over zeros
zeros-over : (i k n : ℕ) → k ≤ n → replicate n (pos 0) ≡ table_from i k (λ v. pos 0) ++ drop k (replicate n (pos 0))
unfolding table_from
zeros-over i zero n h = refl
zeros-over i (suc k) zero h = absurd (omega arith)
zeros-over i (suc k) (suc n) h = ap (λ l. pos 0 ∷ l) (zeros-over (suc i) k n (omega arith))

zeros-filled : (k n : ℕ) → k ≤ n → replicate n (pos 0) ≡ filled n (pos 0) k (λ v. pos 0)
unfolding filled
zeros-filled k n h = zeros-over 0 k n h

module _ {t : Tableau} (S : Searchable t) where
  pub smalls-nought : t.limits.strict ≡ false → noughts ≡ numerators_at t t.smalls
  unfolding numerators_laid numerator_laid
  smalls-nought e = zeros-filled (t.rows + t.columns) most_variables
      (let a = S.few-rows in let b = S.few-columns in omega arith)
      ∙ filled-same most_variables (pos 0) (λ v. pos 0) (t.rows + t.columns) (numerator_at t t.smalls)
      (λ v h. sym (go v (seat_at t v).basic))
    where
      go : (v : ℕ) (b : Bool) → numerator_from b (scaled_at t v).1 (t.common *ℤ small_at t (column_of t v)) ≡ pos 0
      go v true =
          row-nothing t.rows t.columns t.entries t.smalls (row_of t v) (S.smalls-plain e) t.columns
      go v false = ap (λ z. t.common *ℤ z) (S.smalls-plain e (column_of t v)) ∙ *ℤ-zero t.common
