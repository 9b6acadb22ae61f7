-- Limits that cross, by their numbers and marks: the lower number is the greater one; or both are the same, and either
-- limit is strict.
--   limits-cross      what limits stand for crosses exactly there
--   conflict-plain    so a conflict is the lowest variable of which that is so
use mathlib.Core.Bool.{Bool, false, true}
use mathlib.Core.Logic.{inl, inr, ◌↔◌, ◌⊎◌}
use mathlib.Core.Option.{Option, none-ne-some, none, some}
use mathlib.Core.Path.{ap, refl, subst₂, sym, ◌≡◌}
use Prim.Native.Nat.{ℕ, ◌<◌}
use lib.IntN.{neg_ℤ, ℤ}
use lib.Signed.{<ℤ_irrefl, ◌<ℤ◌}
use Rattle.whole.proofs.Bools.{true-false}
use Rattle.whole.proofs.Tells.{tells-true}
use Rattle.whole.specs.Values.{Lt, pairs}
use Rattle.rules.proofs.Answer.Run.{crosses-exactly}
use Rattle.rules.proofs.Run.Started.{less-tells}
use Rattle.rules.specs.Facts.Run.{Crosses, LimitsCross}
use Rattle.rules.specs.Limit.{Limit, inset, lower_pair, upper_pair}
use Rattle.rules.specs.Problem.{Problem, inner, mapped, vars}
use Rattle.rules.specs.Run.{conflict}

-- ---- two limits

-- one small amount inside, on either side
marked : (a b : Bool) → neg_ℤ (inset b) <ℤ inset a → (a ≡ true) ⊎ (b ≡ true)
marked true b h = inl refl
marked false true h = inr refl
marked false false h = absurd (<ℤ_irrefl h)

apart : (a b : Bool) → (a ≡ true) ⊎ (b ≡ true) → neg_ℤ (inset b) <ℤ inset a
apart true true h = record { lt = tt }
apart true false h = record { lt = tt }
apart false true h = record { lt = tt }
apart false false (inl e) = true-false e refl
apart false false (inr e) = true-false e refl

Cross : Limit → Limit → Type 0
Cross l u = (u.plain <ℤ l.plain) ⊎ ((u.plain ≡ l.plain) × ((l.strict ≡ true) ⊎ (u.strict ≡ true)))

crossing : (l u : Limit) → Lt pairs (upper_pair u) (lower_pair l) → Cross l u
unfolding Cross
crossing l u h = go ((less-tells (upper_pair u) (lower_pair l)).if-true h)
  where
    go : (u.plain <ℤ l.plain) ⊎ ((u.plain ≡ l.plain) × (neg_ℤ (inset u.strict) <ℤ inset l.strict)) → Cross l u
    go (inl k) = inl k
    go (inr (e, k)) = inr (e, marked l.strict u.strict k)

crossed-so : (l u : Limit) → Cross l u → Lt pairs (upper_pair u) (lower_pair l)
unfolding Cross
crossed-so l u c = tells-true (less-tells (upper_pair u) (lower_pair l)) (go c)
  where
    go : Cross l u → (u.plain <ℤ l.plain) ⊎ ((u.plain ≡ l.plain) × (neg_ℤ (inset u.strict) <ℤ inset l.strict))
    go (inl k) = inl k
    go (inr (e, k)) = inr (e, apart l.strict u.strict k)

-- ---- of a variable

-- a limit that stands for a pair is there
stands : (f : Limit → ℤ × ℤ) (o : Option Limit) (x : ℤ × ℤ) → mapped f o ≡ some x →
    (l : Limit) × (o ≡ some l) × (f l ≡ x)
unfolding mapped
stands f none x e = absurd (none-ne-some x e)
stands f (some l) x e = (l, refl, (cc))

module _ (P : Problem Limit) where
  limits-cross : (v : ℕ) → Crosses pairs (inner P) v ↔ LimitsCross P v
  unfolding mapped Cross
  limits-cross v = (
    λ (x, y, a, b, h).
        let (l, p, q) = stands lower_pair (P.lower v) x a in
        let (u, r, s) = stands upper_pair (P.upper v) y b in
        (l, u, p, r, crossing l u (subst₂ (Lt pairs) (sym s) (sym q) h)),
    λ (l, u, a, b, h).
        (lower_pair l, upper_pair u, ap (mapped lower_pair) a, ap (mapped upper_pair) b, crossed-so l u h),
  )

  pub conflict-plain : (v : ℕ) → (conflict pairs (inner P) ≡ some v)
      ↔ ((v < vars P) × LimitsCross P v × ((u : ℕ) → u < v → ¬ LimitsCross P u))
  conflict-plain v = let r = crosses-exactly pairs (inner P) v in (
    λ e. let (h, c, first) = r.0 e in (h, (limits-cross v).0 c, λ u k y. first u k ((limits-cross u).1 y)),
    λ (h, c, first). r.1 (h, (limits-cross v).1 c, λ u k y. first u k ((limits-cross u).0 y)),
  )
