-- The values that nonbasic variables sit at, and sums over them.
--   sum-of-seated     a sum whose terms at basic variables are 0 has at most as many terms as are seated
--   values-start, values_moved, values-after    what holds of 0 and of every limit holds of every seated value of a run
use mathlib.Core.Bool.{Bool, cond, false, true}
use mathlib.Core.List.{List, [], ◌∷◌}
use mathlib.Core.Logic.{inl, inr, ◌≢◌, ◌⊎◌}
use mathlib.Core.Option.{Option, none-ne-some, none, some}
use mathlib.Core.Path.{refl, sym, ◌∙◌, ◌≡◌}
use Prim.Native.Nat.{suc, ℕ, ◌*◌, ◌<◌}
use native.Mathlib.Decide.{dec_lt}
use native.Mathlib.Omega.{arith}
use lib.IntN.{+ℤ_idl, pos, ℤ}
use lib.ListN.{get_or-eq_default, get_or, length}
use Rattle.whole.proofs.Numbers.Sizes.{within-+, within-le}
use Rattle.whole.proofs.Numbers.Sums.{sum_head, sum-within}
use Rattle.whole.specs.Numbers.{Within}
use Rattle.whole.specs.Sums.{sum}
use Rattle.whole.specs.Values.{Values}
use Rattle.rules.proofs.Step.Entering.{entered}
use Rattle.rules.proofs.Step.Leaving.{left}
use Rattle.rules.proofs.Run.Steady.{kept-along, rowed-goes}
use Rattle.rules.proofs.Step.Cases.{step-goes}
use Rattle.rules.proofs.Tableau.Pivot.{was-some}
use Rattle.rules.proofs.Run.Start.{rowed-start, seat-start, seated-problem}
use Rattle.rules.specs.Problem.{Problem, vars}
use Rattle.rules.specs.Facts.Rule.{Entered, Left, Outside, too-high, too-low}
use Rattle.rules.specs.Run.{after}
use Rattle.rules.specs.Facts.State.{Rowed, how_many_seated}
use Rattle.rules.specs.Step.{Leaving, Side, State, goes, limit_at, moved, seat, start, start_value, step}

-- a sum over all variables whose terms at basic variables are 0
pub sum-of-seated : {X : Type 0} (l : List (Option X)) (f : ℕ → ℤ) (b : ℕ) →
    ((v : ℕ) → v < length l → get_or l v none ≡ none → f v ≡ pos 0) →
    ((v : ℕ) (x : X) → v < length l → get_or l v none ≡ some x → Within (f v) b) →
    Within (sum (length l) f) (how_many_seated l * b)
sum-of-seated [] f b h k = sum-within 0 (λ i l. let z : ⊥ = omega arith in absurd z)
sum-of-seated (none ∷ l) f b h k =
    rw (sum_head (length l) f, h 0 (omega arith) refl, +ℤ_idl (sum (length l) (λ v. f (suc v))))
    (sum-of-seated l (λ v. f (suc v)) b (λ v p. h (suc v) (omega arith)) (λ v x p. k (suc v) x (omega arith)))
sum-of-seated (some x ∷ l) f b h k = rw (sum_head (length l) f)
    (within-le (within-+ (k 0 x (omega arith) refl)
    (sum-of-seated l (λ v. f (suc v)) b (λ v p. h (suc v) (omega arith)) (λ v x p. k (suc v) x (omega arith))))
    (omega arith))

module _ {X : Type 0} (𝓥 : Values X) (P : Problem X) (Q : X → Type 0)
    (low : (v : ℕ) (l : X) → v < vars P → P.lower v ≡ some l → Q l)
    (high : (v : ℕ) (u : X) → v < vars P → P.upper v ≡ some u → Q u) where
  abbrev pub Values-are : State X → Type 0
  Values-are s = (v : ℕ) (x : X) → seat s v ≡ some x → Q x

  one_of_two : (b : Bool) {x y : X} → Q x → Q y → Q (cond b x y)
  one_of_two true p q = p
  one_of_two false p q = q

  start-value : Q 𝓥.nil → (o p : Option X) → ((l : X) → o ≡ some l → Q l) → ((u : X) → p ≡ some u → Q u) →
      Q (start_value 𝓥 o p)
  unfolding start_value
  start-value z none none f g = z
  start-value z none (some u) f g = one_of_two (𝓥.less u 𝓥.nil) (g u refl) z
  start-value z (some l) none f g = one_of_two (𝓥.less 𝓥.nil l) (f l refl) z
  start-value z (some l) (some u) f g = one_of_two (𝓥.less 𝓥.nil l) (f l refl)
      (one_of_two (𝓥.less u 𝓥.nil) (g u refl) z)

  pub values-start : Q 𝓥.nil → Values-are (start 𝓥 P)
  values-start z v x e = go (dec_lt v (vars P))
    where
      go : Dec (v < vars P) → Q x
      go (yes h) = let p = seated-problem 𝓥 P v x (sym (seat-start 𝓥 P v h) ∙ e) in
          rw p.1 (start-value z (P.lower v) (P.upper v) (λ l. low v l h) (λ u. high v u h))
      go (no n) = let m : length (start 𝓥 P).seats ≡ vars P = (rowed-start 𝓥 P).seats-many in
          absurd (none-ne-some x (sym (get_or-eq_default (start 𝓥 P).seats none {n = v} (omega arith)) ∙ e))

  limit-value : (s : State X) (v : ℕ) {σ : Side} {x : X} → v < vars P → Outside 𝓥 P s v σ x → Q x
  limit-value s v {x = x} h (too-low e k) = low v x h e
  limit-value s v {x = x} h (too-high e k) = high v x h e

  values_moved : (s : State X) (r : Leaving X) (w : ℕ) → Rowed 𝓥 P s → Left 𝓥 P s r → Entered 𝓥 P s r w →
      Values-are s → Values-are (moved 𝓥 P s r w)
  values_moved s r w R L E A v x e = go (was-some 𝓥 P s R r w L E v x e)
    where
      go : ((v ≡ r.variable) × (x ≡ limit_at 𝓥 P r)) ⊎ ((v ≢ r.variable) × (v ≢ w) × (seat s v ≡ some x)) → Q x
      go (inl p) = rw p.1 (limit-value s r.variable L.variable L.outside)
      go (inr p) = A v x p.2

  -- every seated value of a run whose rows hold
  pub values-after : (s : State X) → Rowed 𝓥 P s → Values-are s → (k : ℕ) → Values-are (after 𝓥 P s k)
  values-after s R A k = (kept-along 𝓥 P (λ t. Rowed 𝓥 P t × Values-are t)
      (λ s t B e. (rowed-goes 𝓥 P s t B.0 e, along s t B e)) s (R, A) k).1
    where
      along : (s t : State X) → Rowed 𝓥 P s × Values-are s → step 𝓥 P s ≡ goes t → Values-are t
      along s t B e = let g = step-goes 𝓥 P s t e in
          rw g.next-is (values_moved s g.out g.into B.0 (left 𝓥 P s g.out g.leaves)
          (entered 𝓥 P s g.out g.into g.enters) B.1)
