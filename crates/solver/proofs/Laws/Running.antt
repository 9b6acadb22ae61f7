-- The loop that spends pivots, on plain values: where it stands, and what the run comes to.
--   Running                        of `most` pivots from t, k are spent: they go on, and u is the tableau after them
--   running-start, running_more    none is spent, and one more
--   running-held                   a step may be asked of u
--   running-over, running-spent    the run is over at u, or goes on where nothing is left to spend
--   running-done                   nothing is left to spend, and there is no look
--   ran-few, ran-tellable          what the run comes to can be told: its count, and its end
--   ran_many                       .. of as many variables
use mathlib.Core.Bool.{Bool, false, true}
use mathlib.Core.Path.{◌≡◌, ap, ap₂, refl, sym, ◌∙◌}
use Prim.Native.Nat.{ℕ, ◌+◌, ◌<◌, ◌≤◌}
use native.Mathlib.Omega.{arith}
use Rattle.whole.proofs.Bools.{true-false}
use Rattle.whole.proofs.Tells.{tells-eq}
use Rattle.tableau.specs.declared.Tableau.{Tableau}
use Rattle.rules.specs.Run.{most_count}
use Rattle.steps.specs.declared.End.{End}
use Rattle.steps.specs.declared.Outcome.TheVariants as outcomes
use Rattle.steps.specs.Step.{Held, on, outcome_at, over, stepped_at}
use Rattle.steps.proofs.Laws.Cases.{outcome-ended, read_of}
use Rattle.solver.specs.Run.{GoesOn, Tellable, after_at}
use Rattle.solver.specs.Spend.{Ran, Standing, Uncrossed, is_done, many_of, ran_by}
use Rattle.solver.proofs.Laws.Stands.Run.{after_more, after_none, goes-more, held_after}
use Rattle.solver.proofs.Laws.Stands.Slices.{many-same, tellable-slice, total-few}
use Rattle.solver.proofs.Laws.Spends.{by_over, ran-by, ran_over, ran-spent, ran-unlooked}

pub record Running (t : Tableau) (most : ℕ) (u : Tableau) (k : ℕ) : Type 0 where
  pub counted : k ≤ most
  pub after_is : u ≡ after_at t k
  pub goes_on : GoesOn t k

pub running-start : (t : Tableau) (most : ℕ) → Running t most t 0
running-start t most = record {
  counted = omega arith;
  after_is = after_none t;
  goes_on = λ i h. let z : ⊥ = omega arith in absurd z;
}

module _ {t u : Tableau} {most k : ℕ} (R : Running t most u k) where
  pub running-held : Held t → Held u
  running-held H = rw R.after_is (held_after H k R.goes_on)

  pub running_more : {n : Tableau} → k < most → (stepped_at u).course ≡ on → n ≡ (stepped_at u).tableau →
      Running t most n (k + 1)
  running_more h e f = record {
    counted = omega arith;
    after_is = f ∙ ap (λ x. (stepped_at x).tableau) R.after_is ∙ after_more t k;
    goes_on = goes-more t k R.goes_on (ap (λ x. (stepped_at x).course) (sym R.after_is) ∙ e);
  }

  pub running-over : (look : Bool) → is_done look k most ≡ false → (e : End) →
      outcome_at (read_of u) ≡ outcomes.Ended e →
      record { tableau = u; course = over e; count = k } ≡ ran_by look t most
  running-over look d e q = ran-by look t most _ (
      ap (λ x. record { tableau = x; course = over e; count = k }) R.after_is
      ∙ sym (ran_over t k most R.goes_on e R.counted
      (ap (λ x. (stepped_at x).course) (sym R.after_is) ∙ ap (λ s. s.course) (outcome-ended u e q)))) d

  pub running-spent : (look : Bool) → is_done look k most ≡ false → k ≡ most → (stepped_at u).course ≡ on →
      record { tableau = u; course = on; count = k } ≡ ran_by look t most
  running-spent look d h e = ran-by look t most _ (
      ap₂ (λ x w. record { tableau = x; course = w; count = k }) R.after_is
      (sym e ∙ ap (λ x. (stepped_at x).course) R.after_is)
      ∙ sym (ran-spent t k most R.goes_on h)) d

  pub running-done : (look : Bool) → is_done look k most ≡ true →
      record { tableau = u; course = on; count = k } ≡ ran_by look t most
  running-done look d = ap (λ x. record { tableau = x; course = on; count = k }) R.after_is
      ∙ ran-unlooked look t most _ (sym (ran-spent t k most R.goes_on (done_all look d))) d
    where
      done_all : (x : Bool) → is_done x k most ≡ true → k ≡ most
      done_all true e = true-false e refl
      done_all false e = (tells-eq k most).if-true e

module _ {t : Tableau} {before : ℕ} (S : Standing t before) (free : Uncrossed t) (look : Bool) (most : ℕ) {r : Ran}
    (q : r ≡ ran_by look t most) where
  pub ran-few : before + r.count < most_count
  ran-few = rw q (total-few S.holds free most)

  pub ran_many : many_of r.tableau ≡ many_of t
  ran_many = rw q (many-same S.holds free most)

  pub ran-tellable : (e : End) → r.course ≡ over e → Tellable e (before + r.count) r.tableau
  ran-tellable e = rw q (λ p. tellable-slice S.holds free most e (by_over look t most e p))
