-- A run with so many pivots to spend, from any tableau on its way.
--   ran-along     some pivots on, with those that are left
--   ran_over, ran-spent     the run is over there; nothing is left to spend
--   ran-by, ran-unlooked    with a look or without: where it makes no difference, and behind the last pivot
--   by_over                 where it is over without, it is over with one
use mathlib.Core.Bool.{Bool, cond, false, true}
use mathlib.Core.Path.{◌≡◌, ap, ap₂, refl, sym, ◌∙◌}
use Prim.Native.Nat.{ℕ, zero, suc, ◌+◌, ◌-◌, ◌≤◌}
use native.Mathlib.Nat.{add-zero}
use native.Mathlib.Omega.{arith}
use Rattle.whole.proofs.Bools.{zero_one}
use Rattle.tableau.specs.declared.Tableau.{Tableau}
use Rattle.steps.specs.declared.End.{End}
use Rattle.steps.specs.Step.{on, over, stepped_at}
use Rattle.solver.specs.Run.{GoesOn, after_at, after_laid}
use Rattle.solver.specs.Spend.{Ran, counted, is_done, ran_at, ran_by, spent_by}

after_front : (t : Tableau) (i : ℕ) → after_at (stepped_at t).tableau i ≡ after_at t (suc i)
unfolding after_laid
after_front t zero = refl
after_front t (suc i) = ap (λ u. (stepped_at u).tableau) (after_front t i)

abbrev further : ℕ → Ran → Ran
further k r = record { tableau = r.tableau; course = r.course; count = k + r.count }

same_count : (r : Ran) {a b : ℕ} → a ≡ b →
    ◌≡◌ {A = Ran} (record { tableau = r.tableau; course = r.course; count = a })
    (record { tableau = r.tableau; course = r.course; count = b })
same_count r e = ap (λ k. record { tableau = r.tableau; course = r.course; count = k }) e

ran-along : (k c : ℕ) (t : Tableau) → GoesOn t k → ran_at t (k + c) ≡ further k (ran_at (after_at t k) c)
unfolding ran_at after_laid
ran-along zero c t g = ap (ran_at t) (let z : 0 + c ≡ c = omega arith in z)
    ∙ same_count (ran_at t c) (let z : (ran_at t c).count ≡ 0 + (ran_at t c).count = omega arith in z)
ran-along (suc k) c t g =
    ap (ran_at t) (let z : suc k + c ≡ suc (k + c) = omega arith in z)
    ∙ ap (λ x. spent_by x t (ran_at (stepped_at t).tableau (k + c))) (g 0 (omega arith))
    ∙ ap counted
    (ran-along k c (stepped_at t).tableau
    (λ i h. ap (λ u. (stepped_at u).course) (after_front t i) ∙ g (suc i) (omega arith)))
    ∙ ap (λ u. counted (further k (ran_at u c))) (after_front t k)
    ∙ same_count (ran_at (after_at t (suc k)) c)
    (let z : suc (k + (ran_at (after_at t (suc k)) c).count) ≡ suc k + (ran_at (after_at t (suc k)) c).count =
    omega arith in z)

module _ (t : Tableau) (k most : ℕ) (g : GoesOn t k) where
  pub ran_over : (e : End) → k ≤ most → (stepped_at (after_at t k)).course ≡ over e →
      ran_at t most ≡ record { tableau = after_at t k; course = over e; count = k }
  unfolding ran_at
  ran_over e h q = ap (ran_at t) (let z : most ≡ k + (most - k) = omega arith in z)
      ∙ ran-along k (most - k) t g ∙ go (most - k)
    where
      go : (c : ℕ) → further k (ran_at (after_at t k) c) ≡ record { tableau = after_at t k; course = over e; count = k }
      go zero = ap₂ (λ x j. record { tableau = after_at t k; course = x; count = j }) q (add-zero k)
      go (suc c) = ap (λ x. further k (spent_by x (after_at t k) (ran_at (stepped_at (after_at t k)).tableau c))) q
          ∙ ap (λ j. record { tableau = after_at t k; course = over e; count = j }) (add-zero k)

  pub ran-spent : k ≡ most →
      ran_at t most ≡ record { tableau = after_at t k; course = (stepped_at (after_at t k)).course; count = k }
  unfolding ran_at
  ran-spent h = ap (ran_at t) (let z : most ≡ k + 0 = omega arith in z) ∙ ran-along k 0 t g
      ∙ ap (λ j. record { tableau = after_at t k; course = (stepped_at (after_at t k)).course; count = j }) (add-zero k)

-- ---- with a look or without

module _ (look : Bool) (t : Tableau) (b : ℕ) where
  -- the look is not left out
  pub ran-by : (r : Ran) → r ≡ ran_at t b → is_done look r.count b ≡ false → r ≡ ran_by look t b
  ran-by r e f = sym (ap (λ x. record { tableau = r.tableau; course = cond x on r.course; count = r.count }) f)
      ∙ ap (λ (y : Ran). record {
        tableau = y.tableau;
        course = cond (is_done look y.count b) on y.course;
        count = y.count;
      }) e

  -- .. and is
  pub ran-unlooked : (r : Ran) → r ≡ ran_at t b → is_done look r.count b ≡ true →
      record { tableau = r.tableau; course = on; count = r.count } ≡ ran_by look t b
  ran-unlooked r e f =
      sym (ap (λ x. record { tableau = r.tableau; course = cond x on r.course; count = r.count }) f)
      ∙ ap (λ (y : Ran). record {
        tableau = y.tableau;
        course = cond (is_done look y.count b) on y.course;
        count = y.count;
      }) e

  pub by_over : (e : End) → (ran_by look t b).course ≡ over e → (ran_at t b).course ≡ over e
  by_over e q = go (is_done look (ran_at t b).count b) q
    where
      go : (x : Bool) → cond x on (ran_at t b).course ≡ over e → (ran_at t b).course ≡ over e
      go true p = let c : ◌≡◌ {A = ℕ} 0 1 = cc in zero_one c
      go false p = p
