-- Where a variable leaves and none can enter, the multipliers of the violated row are evidence. They are in range as
-- the tableau is; a limit that has one is there; the columns cancel as the row holds of the n unit solutions.
--   column-at      a column is the sum at a unit solution
--   cannot-shown
use mathlib.Core.List.{[], ◌∷◌}
use mathlib.Core.Option.{Option, none}
use mathlib.Core.Path.{ap, refl, sym, ◌∙◌, ◌≡◌}
use Prim.Native.Nat.{ℕ, ◌<◌}
use native.Mathlib.Decide.{ℕ_discrete}
use lib.IntN.{*ℤ-zero, neg_ℤ, pos, ℤ, ◌*ℤ◌, ◌-ℤ◌}
use lib.Signed.{◌≤ℤ◌}
use Rattle.whole.proofs.Ring.Reify.{reify}
use Rattle.whole.proofs.Ring.Laws.{*ℤ-idr, neg-*ℤ}
use Rattle.whole.proofs.Numbers.Sizes.{within-neg}
use Rattle.whole.proofs.Numbers.Sums.{sum_one, sum_same, sum-times}
use Rattle.whole.proofs.Ring.Tools.{ring-at}
use Rattle.whole.specs.Numbers.{Within}
use Rattle.whole.specs.Sums.{sum}
use Rattle.whole.proofs.Values.Beside.{pairs-laws}
use Rattle.whole.specs.Values.{pairs}
use Rattle.rules.proofs.Evidence.Farkas.{rows-balance}
use Rattle.rules.specs.Facts.Evidence.{Multipliers}
use Rattle.rules.proofs.Evidence.Own.Stuck.{high-missing, low-missing}
use Rattle.rules.proofs.Evidence.Own.Gain.{stuck-contradicts}
use Rattle.rules.proofs.Evidence.Own.Terms.{positive-parts, positive-range, pull-is, turn}
use Rattle.rules.specs.Facts.Rule.{Left}
use Rattle.rules.proofs.Tableau.Relation.{balanced, relation-off, relation-own}
use Rattle.rules.specs.Facts.Range.{Small}
use Rattle.rules.proofs.Tableau.InRange.{small-tells}
use Rattle.rules.specs.Facts.State.{Kept, Rowed}
use Rattle.rules.proofs.Tableau.Units.{problem-row, same-off, same_self, unit-solves}
use Rattle.rules.specs.Evidence.{column}
use Rattle.rules.specs.Limit.{Limit, lower_pair, upper_pair}
use Rattle.rules.specs.Problem.{Problem, inner, mapped, vars}
use Rattle.rules.specs.Sizes.{largest_number}
use Rattle.rules.specs.Step.{Leaving, Side, State, above, below, entering, positive, pull, start_entry}
use Rattle.rules.specs.Tableau.{Tableau, relation}

column-at : {X : Type 0} (P : Problem X) (y : ℕ → ℤ) (j : ℕ) → j < P.n →
    sum (vars P) (λ v. y v *ℤ start_entry P v j) ≡ column P y j
column-at P y j h =
    rows-balance P (λ v. start_entry P v j) y (unit-solves P j h)
    ∙ sum_one P.n j (λ i. column P y i *ℤ start_entry P i j) h
    (λ i k n. ap (λ z. column P y i *ℤ z) (problem-row P i j k ∙ same-off i j n) ∙ *ℤ-zero (column P y i))
    ∙ ap (λ z. column P y j *ℤ z) (problem-row P j j h ∙ same_self j) ∙ *ℤ-idr (column P y j)

relation-within : (N : ℕ) (t : Tableau) → Small N t → (v u : ℕ) → v < N → u < N → Within (relation t v u) largest_number
relation-within N t S v u p q = go (ℕ_discrete u v)
  where
    go : Dec (u ≡ v) → Within (relation t v u) largest_number
    go (yes e) = rw (e, relation-own t v) (within-neg S.0)
    go (no n) = rw (relation-off t v u n) (S.1 v p u q)

within-pull : (σ : Side) {a : ℤ} {k : ℕ} → Within a k → Within (pull σ a) k
unfolding pull
within-pull below h = h
within-pull above h = within-neg h

module _ (P : Problem Limit) (s : State (ℤ × ℤ)) (R : Rowed pairs (inner P) s) (K : Kept pairs (inner P) s)
    (r : Leaving (ℤ × ℤ)) (L : Left pairs (inner P) s r) (none-enter : entering pairs (inner P) s r ≡ none) where
  abbrev q : ℕ
  q = r.variable

  abbrev y : ℕ → ℤ
  y v = relation s.tableau q v

  abbrev z : ℕ → ℤ
  z v = pull r.side (y v)

  abbrev lo : ℕ → ℤ
  lo v = positive (neg_ℤ (z v))

  abbrev hi : ℕ → ℤ
  hi v = positive (z v)

  -- minus the row turned to rise, times any numbers
  turned-sum : (f : ℕ → ℤ) → sum (vars P) (λ v. neg_ℤ (z v *ℤ f v))
      ≡ neg_ℤ (turn r.side) *ℤ sum (vars P) (λ v. y v *ℤ f v)
  turned-sum f = sum_same (vars P) (λ v. neg_ℤ (z v *ℤ f v)) (λ v. neg_ℤ (turn r.side) *ℤ (y v *ℤ f v)) each
      ∙ sum-times (vars P) (neg_ℤ (turn r.side)) (λ v. y v *ℤ f v)
    where
      around : (a b c : ℤ) → neg_ℤ ((a *ℤ b) *ℤ c) ≡ neg_ℤ a *ℤ (b *ℤ c)
      around a b c = ring-at (a ∷ b ∷ c ∷ []) (search reify depth 30) refl

      each : (v : ℕ) → v < vars P → neg_ℤ (z v *ℤ f v) ≡ neg_ℤ (turn r.side) *ℤ (y v *ℤ f v)
      each v h = ap (λ a. neg_ℤ (a *ℤ f v)) (pull-is r.side (y v)) ∙ around (turn r.side) (y v) (f v)

  in-range : (v : ℕ) → v < vars P → Within (z v) largest_number
  in-range v h = within-pull r.side (relation-within (vars P) s.tableau
      ((small-tells (vars P) s.tableau).if-true K.in-range) q v L.variable h)

  column-zero : (j : ℕ) → j < P.n → column P (λ v. lo v -ℤ hi v) j ≡ pos 0
  column-zero j h =
      sym (column-at P (λ v. lo v -ℤ hi v) j h)
      ∙ sum_same (vars P) (λ v. (lo v -ℤ hi v) *ℤ start_entry P v j) (λ v. neg_ℤ (z v *ℤ start_entry P v j))
      (λ v k. ap (λ a. a *ℤ start_entry P v j) (positive-parts (z v)) ∙ neg-*ℤ (z v) (start_entry P v j))
      ∙ turned-sum (λ v. start_entry P v j)
      ∙ ap (λ a. neg_ℤ (turn r.side) *ℤ a)
      (balanced (vars P) s.tableau q q L.variable L.variable (λ v. start_entry P v j)
      (R.holds (λ v. start_entry P v j) (unit-solves P j h)) (λ v k. R.basic-zero v q k L.variable L.was-basic))
      ∙ *ℤ-zero (neg_ℤ (turn r.side))

  not_there : {X Y : Type 0} (f : X → Y) (o : Option X) → o ≡ none → mapped f o ≡ none
  unfolding mapped
  not_there f o e = rw e refl

  pub cannot-shown : Multipliers P (pos 0)
      (λ v. positive (neg_ℤ (pull r.side (relation s.tableau r.variable v))))
      (λ v. positive (pull r.side (relation s.tableau r.variable v)))
  cannot-shown = record {
    right = record {
      no-denominator = refl;
      lowers = λ v h. record {
        least = (low-range v h).0;
        missing = λ m. low-missing pairs pairs-laws (inner P) s R r L none-enter v h
            (not_there lower_pair (P.lower v) m);
      };
      uppers = λ v h. record {
        least = (high-range v h).0;
        missing = λ m. high-missing pairs pairs-laws (inner P) s R r L none-enter v h
            (not_there upper_pair (P.upper v) m);
      };
      cancels = column-zero;
      contradiction = stuck-contradicts P s R r L none-enter;
    };
    lowers-most = λ v h. (low-range v h).1;
    uppers-most = λ v h. (high-range v h).1;
  }
    where
      low-range : (v : ℕ) → v < vars P → (pos 0 ≤ℤ lo v) × (lo v ≤ℤ pos largest_number)
      low-range v h = positive-range largest_number (neg_ℤ (z v)) (within-neg (in-range v h))

      high-range : (v : ℕ) → v < vars P → (pos 0 ≤ℤ hi v) × (hi v ≤ℤ pos largest_number)
      high-range v h = positive-range largest_number (z v) (in-range v h)
