-- The n unit solutions of the rows; and that a row which holds of them holds of every solution, of any values.
--   unit-solves    column w of the start is a solution
--   holds_of       an equation that holds of whole-number solutions holds of all
use mathlib.Core.Bool.{Bool, cond, false, true}
use mathlib.Core.Logic.{◌≢◌}
use mathlib.Core.Path.{ap, refl, sym, ◌∙◌, ◌≡◌}
use Prim.Native.Nat.{ℕ, ◌+◌, ◌-◌, ◌<◌, ◌≤◌}
use native.Mathlib.Decide.{dec_lt}
use native.Mathlib.Omega.{arith}
use lib.Arith.{le→nltb}
use lib.Dec.{eqb, eqb_refl, eqb→eq, ltb, lt→ltb}
use lib.IntN.{*ℤ-one, *ℤ-zero, one, pos, ℤ, ◌*ℤ◌}
use Rattle.whole.proofs.Bools.{T→false, T→true}
use Rattle.whole.proofs.Numbers.Sums.{sum_one, sum_same}
use Rattle.whole.proofs.Values.Laws.{scale-total, sum-scale, total-one, total-same, total-swap}
use Rattle.whole.specs.Sums.{sum}
use Rattle.whole.specs.Values.{Laws, Values, total, whole}
use Rattle.rules.specs.Evidence.{Rows}
use Rattle.rules.specs.Problem.{Problem, vars}
use Rattle.rules.specs.Step.{same, start_entry}

pub lt-true : {a b : ℕ} → a < b → ltb a b ≡ true
lt-true {a} {b} h = T→true (ltb a b) (lt→ltb a b h)

pub ge-false : {a b : ℕ} → b ≤ a → ltb a b ≡ false
ge-false {a} {b} h = T→false (ltb a b) (le→nltb a b h)

pub same_self : (v : ℕ) → same v v ≡ pos 1
same_self v = let e = T→true (eqb v v) (eqb_refl v) in rw e refl

pub same-off : (v w : ℕ) → v ≢ w → same v w ≡ pos 0
same-off v w n = go (eqb v w) refl
  where
    go : (b : Bool) → eqb v w ≡ b → cond b (pos 1) (pos 0) ≡ pos 0
    go true e = absurd (n (eqb→eq v w (rw e tt)))
    go false e = refl

module _ {X : Type 0} (P : Problem X) where
  pub problem-row : (v w : ℕ) → v < P.n → start_entry P v w ≡ same v w
  unfolding start_entry
  problem-row v w h = rw (lt-true h) refl

  pub row-row : (i w : ℕ) → w < P.n → start_entry P (P.n + i) w ≡ P.coefficient i w
  unfolding start_entry
  row-row i w h = rw (ge-false {a = P.n + i} {b = P.n} (omega arith), lt-true h)
      (ap (λ k. P.coefficient k w) (let z : P.n + i - P.n ≡ i = omega arith in z))

  times-one : (a : ℤ) → a *ℤ pos 1 ≡ a
  times-one a = unfold one in (*ℤ-one a)

  pub unit-solves : (w : ℕ) → w < P.n → Rows whole P (λ v. start_entry P v w)
  unit-solves w q i h = row-row i w q
      ∙ sym (sum_one P.n w (λ j. P.coefficient i j *ℤ same j w) q
      (λ j g d. rw (same-off j w d) (*ℤ-zero (P.coefficient i j)))
      ∙ (rw (same_self w) (times-one (P.coefficient i w))))
      ∙ sum_same P.n (λ j. P.coefficient i j *ℤ same j w) (λ j. P.coefficient i j *ℤ start_entry P j w)
      (λ j k. ap (λ e. P.coefficient i j *ℤ e) (sym (problem-row j w k)))

module _ {X Y : Type 0} {𝓥 : Values Y} (L : Laws 𝓥) (P : Problem X) (x : ℕ → Y) (R : Rows 𝓥 P x) where
  open 𝓥 use {scale}

  -- every solution is made of the unit solutions
  by_units : (v : ℕ) → v < vars P → x v ≡ total 𝓥 P.n (λ j. scale (start_entry P v j) (x j))
  by_units v h = go (dec_lt v P.n)
    where
      go : Dec (v < P.n) → x v ≡ total 𝓥 P.n (λ j. scale (start_entry P v j) (x j))
      go (yes q) = sym (total-one L P.n v (λ j. scale (start_entry P v j) (x j)) q
          (λ j k d. ap (λ a. scale a (x j)) (problem-row P v j q ∙ same-off v j (λ e. d (sym e))) ∙ L.zero-scale (x j))
          ∙ ap (λ a. scale a (x v)) (problem-row P v v q ∙ same_self v) ∙ L.one-scale (x v))
      go (no n) = row (v - P.n) (let z : P.n + (v - P.n) ≡ v = omega arith in z)
        where
          row : (i : ℕ) → P.n + i ≡ v → x v ≡ total 𝓥 P.n (λ j. scale (start_entry P v j) (x j))
          row i e = rw (← e) (R i (omega arith)
              ∙ total-same L P.n _ (λ j. scale (start_entry P (P.n + i) j) (x j))
              (λ j k. ap (λ a. scale a (x j)) (sym (row-row P i j k))))

  -- d times variable v is the sum of a: where that holds of whole-number solutions, it holds of these
  pub holds_of : (d : ℤ) (a : ℕ → ℤ) (v : ℕ) → v < vars P →
      ((y : ℕ → ℤ) → Rows whole P y → d *ℤ y v ≡ sum (vars P) (λ u. a u *ℤ y u)) →
      scale d (x v) ≡ total 𝓥 (vars P) (λ u. scale (a u) (x u))
  holds_of d a v h row =
      ap (scale d) (by_units v h)
      ∙ scale-total L d P.n (λ j. scale (e v j) (x j))
      ∙ total-same L P.n _ (λ j. total 𝓥 N (λ u. scale (a u) (scale (e u j) (x j)))) each
      ∙ total-swap L P.n N (λ j u. scale (a u) (scale (e u j) (x j)))
      ∙ total-same L N _ (λ u. scale (a u) (x u))
      (λ u k. sym (scale-total L (a u) P.n (λ j. scale (e u j) (x j))) ∙ ap (scale (a u)) (sym (by_units u k)))
    where
      N : ℕ
      N = vars P

      e : ℕ → ℕ → ℤ
      e u j = start_entry P u j

      each : (j : ℕ) → j < P.n → scale d (scale (e v j) (x j)) ≡ total 𝓥 N (λ u. scale (a u) (scale (e u j) (x j)))
      each j k = sym (L.scale-times d (e v j) (x j))
          ∙ ap (λ c. scale c (x j)) (row (λ u. e u j) (unit-solves P j k))
          ∙ sum-scale L N (λ u. a u *ℤ e u j) (x j)
          ∙ total-same L N _ _ (λ u q. L.scale-times (a u) (e u j) (x j))
