-- A variable whose lower limit exceeds its upper: its two limits, once each, are evidence. Where the plain
-- limits are equal, one of them is strict.
--   mapped-some      something read from a limit comes from one that is there
--   crossed-shown
use mathlib.Core.Bool.{Bool, false, true}
use mathlib.Core.List.{[], ◌∷◌}
use mathlib.Core.Logic.{inl, inr, ◌≢◌}
use mathlib.Core.Option.{Option, none-ne-some, none, some}
use mathlib.Core.Path.{ap, ap₂, refl, subst₂, sym, ◌∙◌, ◌≡◌}
use Prim.Native.Nat.{ℕ, ◌+◌, ◌<◌}
use native.Mathlib.Decide.{ℕ_discrete}
use native.Mathlib.Omega.{arith}
use lib.IntN.{*ℤ-zero, +ℤ_invr, neg_ℤ, pos, ℤ, ◌*ℤ◌, ◌+ℤ◌, ◌-ℤ◌}
use lib.Signed.{le_z_yes, lt_z, ◌<ℤ◌, ◌≤ℤ◌}
use Rattle.whole.proofs.Ring.Nonneg.{of_lt, slk}
use Rattle.whole.proofs.Bools.{true-false}
use Rattle.whole.proofs.Numbers.Order.{false→le, true→lt, ≤ℤ-antisym}
use Rattle.whole.proofs.Ring.Reify.{reify}
use Rattle.whole.proofs.Ring.Laws.{*ℤ-idr}
use Rattle.whole.proofs.Numbers.Sums.{sum_one, sum-zero}
use Rattle.whole.proofs.Ring.Tools.{lt_at}
use Rattle.whole.specs.Values.{Lt, lexicographic, pairs}
use Rattle.rules.proofs.Tableau.Units.{same-off, same_self}
use Rattle.rules.specs.Evidence.{column, plain_of, surplus}
use Rattle.rules.specs.Limit.{Limit, inset, lower_pair, upper_pair}
use Rattle.rules.specs.Problem.{Problem, inner, mapped, vars}
use Rattle.rules.specs.Facts.Evidence.{Contradiction, Multiplier, Multipliers}
use Rattle.rules.specs.Sizes.{largest_number}
use Rattle.rules.specs.Step.{same}
use Rattle.rules.specs.Facts.Run.{Crosses}

-- a multiplier of 1 at v, whose limit is there, and of 0 elsewhere
one_at : (limit : ℕ → Option Limit) (v : ℕ) (x : Limit) → limit v ≡ some x → (w : ℕ) → Multiplier (limit w) (same v w)
one_at limit v x e w = go (ℕ_discrete v w)
  where
    go : Dec (v ≡ w) → Multiplier (limit w) (same v w)
    go (yes c) = rw (← c, same_self v) (record {
      least = le_z_yes tt;
      missing = λ q. absurd (none-ne-some x (sym q ∙ e));
    })
    go (no n) = rw (same-off v w n) (record { least = le_z_yes tt; missing = λ q. refl })

one-most : (v w : ℕ) → same v w ≤ℤ pos largest_number
one-most v w = go (ℕ_discrete v w)
  where
    go : Dec (v ≡ w) → same v w ≤ℤ pos largest_number
    go (yes c) = rw (← c, same_self v) (le_z_yes tt)
    go (no n) = rw (same-off v w n) (le_z_yes tt)

-- the two limits of a variable that cross
record Crossing (P : Problem Limit) (v : ℕ) : Type 0 where
  low : Limit
  high : Limit
  low-is : P.lower v ≡ some low
  high_is : P.upper v ≡ some high
  crosses : Lt pairs (upper_pair high) (lower_pair low)

pub mapped-some : {X Y : Type 0} (f : X → Y) (o : Option X) (y : Y) → mapped f o ≡ some y →
    (x : X) × (o ≡ some x) × (y ≡ f x)
unfolding mapped
mapped-some f none y e = absurd (none-ne-some y e)
mapped-some f (some x) y e = (x, refl, sym (let z : f x ≡ y = cc in z))

crossing : (P : Problem Limit) (v : ℕ) → Crosses pairs (inner P) v → Crossing P v
crossing P v (l, u, a, b, c) =
    let (x, p, q) = mapped-some lower_pair (P.lower v) l a in
    let (y, r, s) = mapped-some upper_pair (P.upper v) u b in
    record { low = x; high = y; low-is = p; high_is = r; crosses = subst₂ (λ u l. Lt pairs u l) s q c }

module _ (P : Problem Limit) (v : ℕ) (h : v < vars P) (C : Crossing P v) where
  column-zero : (j : ℕ) → column P (λ w. same v w -ℤ same v w) j ≡ pos 0
  unfolding column
  column-zero j = ap₂ ◌+ℤ◌ (+ℤ_invr (same v j))
      (sum-zero P.m (λ i. P.coefficient i j *ℤ (same v (P.n + i) -ℤ same v (P.n + i)))
      (λ i h. ap (λ z. P.coefficient i j *ℤ z) (+ℤ_invr (same v (P.n + i))) ∙ *ℤ-zero (P.coefficient i j)))

  surplus-is : surplus P (same v) (same v) ≡ C.low.plain -ℤ C.high.plain
  unfolding surplus plain_of
  surplus-is =
      sum_one (vars P) v (λ w. plain_of (P.lower w) *ℤ same v w -ℤ plain_of (P.upper w) *ℤ same v w)
      h (λ w h n. ap₂ (λ a b. plain_of (P.lower w) *ℤ a -ℤ plain_of (P.upper w) *ℤ b) (off w n) (off w n)
      ∙ ap₂ ◌-ℤ◌ (*ℤ-zero (plain_of (P.lower w))) (*ℤ-zero (plain_of (P.upper w))))
      ∙ rw (same_self v, C.low-is, C.high_is, *ℤ-idr C.low.plain, *ℤ-idr C.high.plain) refl
    where
      off : (w : ℕ) → w ≢ v → same v w ≡ pos 0
      off w n = same-off v w (λ e. n (sym e))

  one-there : same v v ≢ pos 0
  one-there e =
      let z : ◌≡◌ {A = ℤ} (pos 1) (pos 0) = sym (same_self v) ∙ e in
      let y : ◌≡◌ {A = ℕ} 1 0 = cc in
      let x : ⊥ = omega arith in x

  contradiction : Contradiction P (same v) (same v)
  contradiction =
      go (lt_z high low) refl (lt_z low high) refl C.low.strict refl C.high.strict refl C.crosses
    where
      low : ℤ
      low = C.low.plain

      high : ℤ
      high = C.high.plain

      positive_of : (a b : ℤ) → a <ℤ b → pos 0 <ℤ (b -ℤ a)
      positive_of a b h = lt_at (a ∷ b ∷ []) (of_lt h) (search reify depth 30) slk

      level : (a b : ℤ) → a ≡ b → a -ℤ b ≡ pos 0
      level a b e = rw e (+ℤ_invr b)

      tied : lt_z high low ≡ false → lt_z low high ≡ false → surplus P (same v) (same v) ≡ pos 0
      tied p q = surplus-is ∙ level low high
          (≤ℤ-antisym (false→le {a = low} {b = high} p) (false→le {a = high} {b = low} q))

      go : (a : Bool) → lt_z high low ≡ a → (b : Bool) → lt_z low high ≡ b →
          (s : Bool) → C.low.strict ≡ s → (t : Bool) → C.high.strict ≡ t →
          lexicographic a b (lt_z (neg_ℤ (inset t)) (inset s)) ≡ true → Contradiction P (same v) (same v)
      go true p b q s e t f k = inl (rw surplus-is (positive_of high low (true→lt p)))
      go false p true q s e t f k = true-false k refl
      go false p false q true e t f k = inr (tied p q, (v, h, inl (C.low, C.low-is, e, one-there)))
      go false p false q false e true f k = inr (tied p q, (v, h, inr (C.high, C.high_is, f, one-there)))
      go false p false q false e false f k = true-false k refl

  crossed-evidence : Multipliers P (pos 0) (same v) (same v)
  crossed-evidence = record {
    right = record {
      no-denominator = refl;
      lowers = λ w h. one_at P.lower v C.low C.low-is w;
      uppers = λ w h. one_at P.upper v C.high C.high_is w;
      cancels = λ j h. column-zero j;
      contradiction = contradiction;
    };
    lowers-most = λ w h. one-most v w;
    uppers-most = λ w h. one-most v w;
  }

pub crossed-shown : (P : Problem Limit) (v : ℕ) → v < vars P → Crosses pairs (inner P) v →
    Multipliers P (pos 0) (same v) (same v)
crossed-shown P v h c = crossed-evidence P v h (crossing P v c)
