-- What the run's pairs sum to, as the checker's test: the plain limits sum above 0, or to 0 and some limit with a
-- multiplier above 0 is strict, since the small amounts that the limits give then sum above 0.
--   some-above           a sum above 0 has a term above 0
--   strict-gain          of any multipliers
--   stuck-contradicts    of a state whose violated row nothing can move
use mathlib.Core.Bool.{Bool, true, false}
use mathlib.Core.List.{[], ◌∷◌}
use mathlib.Core.Logic.{inl, inr, ◌⊎◌}
use mathlib.Core.Option.{Option, none, some}
use mathlib.Core.Path.{ap₂, refl, subst, ◌∙◌, ◌≡◌}
use Prim.Native.Nat.{ℕ, zero, suc, ◌<◌}
use native.Mathlib.Omega.{arith}
use lib.IntN.{neg_ℤ, pos, ℤ, ◌*ℤ◌, ◌+ℤ◌}
use lib.Signed.{<ℤ_irrefl, lt_z, ◌<ℤ◌, ◌≤ℤ◌}
use Rattle.whole.proofs.Bools.{true-false}
use Rattle.whole.proofs.Ring.Nonneg.{of_le, of_lt, slk, ◌⊞◌}
use Rattle.whole.proofs.Numbers.Order.{false→le, true→lt, ≤ℤ-antisym}
use Rattle.whole.proofs.Ring.Reify.{reify}
use Rattle.whole.proofs.Numbers.Sums.{sum_same}
use Rattle.whole.proofs.Ring.Tools.{lt_at, ring-at}
use Rattle.whole.specs.Sums.{sum, sum_by}
use Rattle.whole.specs.Values.{Lt, total, lexicographic, pairs}
use Rattle.whole.proofs.Values.Beside.{pairs-laws}
use Rattle.whole.proofs.Values.Mixed.{total-parts}
use Rattle.rules.specs.Facts.Rule.{Left}
use Rattle.rules.specs.Facts.State.{Rowed}
use Rattle.rules.specs.Problem.{Problem, vars, inner, mapped}
use Rattle.rules.specs.Step.{Leaving, State, entering, positive, pull, seated}
use Rattle.rules.specs.Tableau.{relation}
use Rattle.rules.specs.Evidence.{plain_of, surplus}
use Rattle.rules.specs.Limit.{Limit, inset, lower_pair, upper_pair}
use Rattle.rules.specs.Facts.Evidence.{Contradiction, StrictNamed}
use Rattle.rules.proofs.Evidence.Own.Stuck.{gives, gain}

no_more_lem : (a b : ℤ) → pos 0 <ℤ (a +ℤ b) → b ≤ℤ pos 0 → pos 0 <ℤ a
no_more_lem a b h k = lt_at (a ∷ b ∷ []) (of_lt h ⊞ of_le k) (search reify depth 30) slk

some-above : (n : ℕ) (f : ℕ → ℤ) → pos 0 <ℤ sum n f → (v : ℕ) × (v < n) × (pos 0 <ℤ f v)
unfolding sum_by
some-above zero f h = absurd (<ℤ_irrefl h)
some-above (suc n) f h = go (lt_z (pos 0) (f n)) refl (some-above n f)
  where
    go : (b : Bool) → lt_z (pos 0) (f n) ≡ b → (pos 0 <ℤ sum n f → (v : ℕ) × (v < n) × (pos 0 <ℤ f v)) →
        (v : ℕ) × (v < suc n) × (pos 0 <ℤ f v)
    go true e rest = (n, omega arith, true→lt e)
    go false e rest = let (v, q, k) = rest (no_more_lem (sum n f) (f n) h (false→le {a = f n} {b = pos 0} e)) in
        (v, omega arith, k)

-- the small amounts that a limit gives
abbrev tiny : Option Limit → ℤ → ℤ
tiny none k = pos 0
tiny (some l) k = inset l.strict *ℤ k

plain-low : (o : Option Limit) (k : ℤ) → k *ℤ (seated pairs (mapped lower_pair o)).0 ≡ plain_of o *ℤ k
unfolding mapped seated plain_of
plain-low none k = ring-at (k ∷ []) (search reify depth 30) refl
plain-low (some l) k = turn k l.plain
  where
    turn : (a b : ℤ) → a *ℤ b ≡ b *ℤ a
    turn a b = ring-at (a ∷ b ∷ []) (search reify depth 30) refl

plain-high : (o : Option Limit) (k : ℤ) → neg_ℤ k *ℤ (seated pairs (mapped upper_pair o)).0 ≡ neg_ℤ (plain_of o *ℤ k)
unfolding mapped seated plain_of
plain-high none k = ring-at (k ∷ []) (search reify depth 30) refl
plain-high (some l) k = turn k l.plain
  where
    turn : (a b : ℤ) → neg_ℤ a *ℤ b ≡ neg_ℤ (b *ℤ a)
    turn a b = ring-at (a ∷ b ∷ []) (search reify depth 30) refl

tiny-low : (o : Option Limit) (k : ℤ) → k *ℤ (seated pairs (mapped lower_pair o)).1 ≡ tiny o k
unfolding mapped seated
tiny-low none k = ring-at (k ∷ []) (search reify depth 30) refl
tiny-low (some l) k = turn k (inset l.strict)
  where
    turn : (a b : ℤ) → a *ℤ b ≡ b *ℤ a
    turn a b = ring-at (a ∷ b ∷ []) (search reify depth 30) refl

tiny-high : (o : Option Limit) (k : ℤ) → neg_ℤ k *ℤ (seated pairs (mapped upper_pair o)).1 ≡ tiny o k
unfolding mapped seated
tiny-high none k = ring-at (k ∷ []) (search reify depth 30) refl
tiny-high (some l) k = turn k (inset l.strict)
  where
    turn : (a b : ℤ) → neg_ℤ a *ℤ neg_ℤ b ≡ b *ℤ a
    turn a b = ring-at (a ∷ b ∷ []) (search reify depth 30) refl

-- where it gives some, it is strict, and its multiplier is not 0
tiny-strict : (o : Option Limit) (k : ℤ) → pos 0 <ℤ tiny o k → StrictNamed o k
tiny-strict none k h = absurd (<ℤ_irrefl h)
tiny-strict (some l) k h = go l.strict refl h
  where
    one : (k : ℤ) → pos 0 <ℤ (pos 1 *ℤ k) → pos 0 <ℤ k
    one k h = lt_at (k ∷ []) (of_lt h) (search reify depth 30) slk

    zero-times : (k : ℤ) → pos 0 <ℤ (pos 0 *ℤ k) → pos 0 <ℤ pos 0
    zero-times k h = lt_at (k ∷ []) (of_lt h) (search reify depth 30) slk

    go : (b : Bool) → l.strict ≡ b → pos 0 <ℤ (inset b *ℤ k) → StrictNamed (some l) k
    go true e h = (l, refl, e, λ z. <ℤ_irrefl (rw z at (one k h)))
    go false e h = absurd (<ℤ_irrefl (zero-times k h))

either-above : (a b : ℤ) → pos 0 <ℤ (a +ℤ b) → (pos 0 <ℤ a) ⊎ (pos 0 <ℤ b)
either-above a b h = go (lt_z (pos 0) b) refl
  where
    go : (c : Bool) → lt_z (pos 0) b ≡ c → (pos 0 <ℤ a) ⊎ (pos 0 <ℤ b)
    go true e = inr (true→lt e)
    go false e = inl (no_more_lem a b h (false→le {a = b} {b = pos 0} e))

module _ (P : Problem Limit) (lo up : ℕ → ℤ) where
  abbrev f : ℕ → ℤ × ℤ
  f v = gives pairs (mapped lower_pair (P.lower v)) (mapped upper_pair (P.upper v)) (lo v) (up v)

  abbrev t : ℕ → ℤ
  t v = tiny (P.lower v) (lo v) +ℤ tiny (P.upper v) (up v)

  whole_sum : total pairs (vars P) f ≡ (surplus P lo up, sum (vars P) t)
  unfolding surplus
  whole_sum = total-parts (vars P) f ∙ ap₂ (λ a b. (a, b))
      (sum_same (vars P) (λ v. (f v).0) _ (λ v h.
      ap₂ ◌+ℤ◌ (plain-low (P.lower v) (lo v)) (plain-high (P.upper v) (up v))))
      (sum_same (vars P) (λ v. (f v).1) t (λ v h.
      ap₂ ◌+ℤ◌ (tiny-low (P.lower v) (lo v)) (tiny-high (P.upper v) (up v))))

  -- some limit that gives a small amount is strict
  strict-there : pos 0 <ℤ sum (vars P) t →
      (v : ℕ) × (v < vars P) × (StrictNamed (P.lower v) (lo v) ⊎ StrictNamed (P.upper v) (up v))
  strict-there h = let (v, q, k) = some-above (vars P) t h in
      (v, q, by v (either-above (tiny (P.lower v) (lo v)) (tiny (P.upper v) (up v)) k))
    where
      by : (v : ℕ) → (pos 0 <ℤ tiny (P.lower v) (lo v)) ⊎ (pos 0 <ℤ tiny (P.upper v) (up v)) →
          StrictNamed (P.lower v) (lo v) ⊎ StrictNamed (P.upper v) (up v)
      by v (inl x) = inl (tiny-strict (P.lower v) (lo v) x)
      by v (inr x) = inr (tiny-strict (P.upper v) (up v) x)

  strict-gain : Lt pairs (pos 0, pos 0) (total pairs (vars P) f) → Contradiction P lo up
  strict-gain h = go (lt_z (pos 0) T) refl (lt_z T (pos 0)) refl (subst (λ w. Lt pairs (pos 0, pos 0) w) whole_sum h)
    where
      T : ℤ
      T = surplus P lo up

      go : (a : Bool) → lt_z (pos 0) T ≡ a → (b : Bool) → lt_z T (pos 0) ≡ b →
          lexicographic a b (lt_z (pos 0) (sum (vars P) t)) ≡ true → Contradiction P lo up
      go true p b r k = inl (true→lt p)
      go false p true r k = true-false k refl
      go false p false r k =
          inr (≤ℤ-antisym (false→le {a = T} {b = pos 0} p) (false→le {a = pos 0} {b = T} r), strict-there (true→lt k))

pub stuck-contradicts : (P : Problem Limit) (s : State (ℤ × ℤ)) → Rowed pairs (inner P) s → (r : Leaving (ℤ × ℤ)) →
    Left pairs (inner P) s r → entering pairs (inner P) s r ≡ none →
    Contradiction P (λ v. positive (neg_ℤ (pull r.side (relation s.tableau r.variable v))))
    (λ v. positive (pull r.side (relation s.tableau r.variable v)))
stuck-contradicts P s R r L e = strict-gain P _ _ (gain pairs pairs-laws (inner P) s R r L e)
