-- Where no variable leaves, the run's numerators are evidence: D is from 1 to the largest number; each numerator is
-- within 8 · 2,147,483,647 · 30,000, as a sum over n seated variables has n terms, each an entry times a limit or 0;
-- and each small part's is within 8 · 2,147,483,647, as a limit stands at most one small amount inside.
--   numerator-within, small-within, can-shown
use mathlib.Core.List.{[], ◌∷◌}
use mathlib.Core.Option.{none, some}
use mathlib.Core.Path.{refl, ◌≡◌}
use Prim.Native.Nat.{ℕ, ◌*◌, ◌<◌, ◌≤◌}
use native.Mathlib.Omega.{arith}
use lib.IntN.{*ℤ-zero, pos, ℤ, ◌*ℤ◌}
use lib.ListN.{length}
use lib.Signed.{◌<ℤ◌, ◌≤ℤ◌}
use Rattle.whole.proofs.Values.Beside.{pairs-laws}
use Rattle.whole.proofs.Values.Mixed.{total-parts}
use Rattle.whole.proofs.Ring.Nonneg.{of_lt, slk}
use Rattle.whole.proofs.Ring.Reify.{reify}
use Rattle.whole.proofs.Numbers.Sizes.{within-*, within-hi, within-le}
use Rattle.whole.proofs.Ring.Tools.{le-at}
use Rattle.whole.specs.Numbers.{Within}
use Rattle.whole.specs.Sums.{sum}
use Rattle.whole.specs.Values.{pairs}
use Rattle.rules.proofs.Evidence.Own.Seats.{sum-of-seated}
use Rattle.rules.specs.Facts.Evidence.{Numerators}
use Rattle.rules.proofs.Evidence.Satisfied.{high-passes, low-passes, row-parts}
use Rattle.rules.proofs.Step.Means.{can-is-met}
use Rattle.rules.specs.Facts.Range.{Small}
use Rattle.rules.proofs.Tableau.InRange.{small-tells}
use Rattle.rules.specs.Facts.State.{Kept, Sound, how_many_seated}
use Rattle.rules.specs.Limit.{Limit}
use Rattle.rules.specs.Problem.{Problem, inner, vars}
use Rattle.rules.specs.Sizes.{largest_limit, largest_number, largest_numerator, largest_small, most_columns}
use Rattle.rules.specs.Step.{State, common, leaving, scaled, seat, seated}
use Rattle.rules.specs.Tableau.{entry}

module _ (P : Problem Limit) (s : State (ℤ × ℤ)) (S : Sound pairs (inner P) s) (K : Kept pairs (inner P) s)
    (few : P.n ≤ most_columns)
    (values : (v : ℕ) (x : ℤ × ℤ) → seat s v ≡ some x → Within x.0 largest_limit × Within x.1 1) where
  in-range : Small (vars P) s.tableau
  in-range = (small-tells (vars P) s.tableau).if-true K.in-range

  -- one part of the values, each within b
  part-within : (f : ℤ × ℤ → ℤ) (b : ℕ) → f (pos 0, pos 0) ≡ pos 0 →
      ((v : ℕ) (x : ℤ × ℤ) → seat s v ≡ some x → Within (f x) b) → (v : ℕ) → v < vars P →
      Within (sum (vars P) (λ w. entry s.tableau v w *ℤ f (seated pairs (seat s w)))) (P.n * (largest_number * b))
  unfolding seated
  part-within f b f-nil each v h = rw (S.rowed.seats-many, K.seated-many) at sum-within-seats
    where
      term : ℕ → ℤ
      term w = entry s.tableau v w *ℤ f (seated pairs (seat s w))

      basic : (w : ℕ) → w < length s.seats → seat s w ≡ none → term w ≡ pos 0
      basic w k e = rw (e, f-nil) (*ℤ-zero (entry s.tableau v w))

      sits : (w : ℕ) (x : ℤ × ℤ) → w < length s.seats → seat s w ≡ some x → Within (term w) (largest_number * b)
      sits w x k e = rw e (within-* (in-range.1 v h w (rw S.rowed.seats-many at k)) (each w x e))

      sum-within-seats : Within (sum (length s.seats) term) (how_many_seated s.seats * (largest_number * b))
      sum-within-seats = sum-of-seated s.seats term (largest_number * b) basic sits

  part-is : (v : ℕ) → scaled pairs (inner P) s v
      ≡ (
        sum (vars P) (λ w. entry s.tableau v w *ℤ (seated pairs (seat s w)).0),
        sum (vars P) (λ w. entry s.tableau v w *ℤ (seated pairs (seat s w)).1),
      )
  unfolding scaled
  part-is v = total-parts (vars P) (λ w. pairs.scale (entry s.tableau v w) (seated pairs (seat s w)))

  numerator-within : (v : ℕ) → v < vars P → Within (scaled pairs (inner P) s v).0 largest_numerator
  numerator-within v h = rw (part-is v)
      (within-le (part-within (λ x. x.0) largest_limit refl (λ w x e. (values w x e).0) v h) (omega arith))

  small-within : (v : ℕ) → v < vars P → Within (scaled pairs (inner P) s v).1 largest_small
  small-within v h = rw (part-is v)
      (within-le (part-within (λ x. x.1) 1 refl (λ w x e. (values w x e).1) v h) (omega arith))

  pub can-shown : leaving pairs (inner P) s ≡ none →
      Numerators P (common s) (λ v. (scaled pairs (inner P) s v).0) (λ v. (scaled pairs (inner P) s v).1)
  can-shown e =
      let M = can-is-met pairs pairs-laws (inner P) s S e in
      record {
        right = record {
          least = of_positive (common s) S.rowed.positive;
          rows = (row-parts P (common s) (scaled pairs (inner P) s) M).0;
          small-rows = (row-parts P (common s) (scaled pairs (inner P) s) M).1;
          lowers = low-passes P (common s) (scaled pairs (inner P) s) M;
          uppers = high-passes P (common s) (scaled pairs (inner P) s) M;
        };
        most = within-hi in-range.0;
        numerators = numerator-within;
        smalls = small-within;
      }
    where
      of_positive : (d : ℤ) → pos 0 <ℤ d → pos 1 ≤ℤ d
      of_positive d h = le-at (d ∷ []) (of_lt h) (search reify depth 30) slk
