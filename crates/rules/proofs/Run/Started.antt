-- The start of a problem in plain words, over its limits as they were given.
--   less-tells     one pair is less than another: by its plain part, or that is the same and by its small part
--   zero-above, zero-below    0 is outside of what a limit stands for exactly where it does not meet the limit
--   started-so     `Starts` of specs/Facts/Run
use mathlib.Core.Bool.{Bool, false, true}
use mathlib.Core.Logic.{inl, inr, ◌⊎◌}
use mathlib.Core.Option.{Option, none-ne-some, none, some}
use mathlib.Core.Path.{ap, refl, subst, sym, ◌∙◌, ◌≡◌}
use Prim.Native.Nat.{ℕ, ◌+◌, ◌<◌}
use native.Mathlib.Omega.{arith}
use lib.IntN.{neg_ℤ, pos, ℤ}
use lib.Signed.{<ℤ_irrefl, lt_z, ◌<ℤ◌, ◌≤ℤ◌}
use Rattle.whole.proofs.Bools.{true-false}
use Rattle.whole.proofs.Numbers.Order.{<ℤ→≤ℤ, false→le, le→false, true→lt, ≤ℤ-<ℤ-trans, ≤ℤ-antisym}
use Rattle.whole.proofs.Tells.{tells-false}
use Rattle.whole.specs.Tells.{Tells}
use Rattle.whole.specs.Values.{Lt, lexicographic, pairs}
use Rattle.rules.proofs.Run.Begin.{value-so}
use Rattle.rules.proofs.Run.Start.{at-start, common-one, seat-start}
use Rattle.rules.proofs.Tableau.Units.{ge-false, lt-true, row-row}
use Rattle.rules.specs.Evidence.{Clears}
use Rattle.rules.specs.Facts.Run.{Starts, StartsAt, ZeroAbove, ZeroBelow, at_high, at_low, at-nil}
use Rattle.rules.specs.Limit.{Limit, inset, lower_pair, upper_pair}
use Rattle.rules.specs.Problem.{Problem, inner, mapped}
use Rattle.rules.specs.Step.{seat, start, start_seat, start_value}

-- ---- pairs

abbrev pub Less : ℤ × ℤ → ℤ × ℤ → Type 0
Less x y = (x.0 <ℤ y.0) ⊎ ((x.0 ≡ y.0) × (x.1 <ℤ y.1))

abbrev pub AtMostThat : ℤ × ℤ → ℤ × ℤ → Type 0
AtMostThat x y = (x.0 <ℤ y.0) ⊎ ((x.0 ≡ y.0) × (x.1 ≤ℤ y.1))

pub less-tells : (x y : ℤ × ℤ) → Tells (pairs.less x y) (Less x y) (AtMostThat y x)
less-tells x y = record {
  if-true = λ e. yes (lt_z x.0 y.0) refl (lt_z y.0 x.0) refl e;
  if-false = λ e. no (lt_z x.0 y.0) refl (lt_z y.0 x.0) refl e;
  not-both = clash;
}
  where
    yes : (a : Bool) → lt_z x.0 y.0 ≡ a → (b : Bool) → lt_z y.0 x.0 ≡ b →
        lexicographic a b (lt_z x.1 y.1) ≡ true → Less x y
    yes true p b q e = inl (true→lt p)
    yes false p true q e = true-false e refl
    yes false p false q e = inr (≤ℤ-antisym (false→le q) (false→le p), true→lt e)

    no : (a : Bool) → lt_z x.0 y.0 ≡ a → (b : Bool) → lt_z y.0 x.0 ≡ b →
        lexicographic a b (lt_z x.1 y.1) ≡ false → AtMostThat y x
    no true p b q e = true-false refl e
    no false p true q e = inl (true→lt q)
    no false p false q e = inr (≤ℤ-antisym (false→le p) (false→le q), false→le e)

    clash : Less x y → AtMostThat y x → ⊥
    clash (inl h) (inl k) = <ℤ_irrefl (≤ℤ-<ℤ-trans (<ℤ→≤ℤ h) k)
    clash (inl h) (inr (e, k)) = <ℤ_irrefl (subst (λ z. x.0 <ℤ z) e h)
    clash (inr (e, h)) (inl k) = <ℤ_irrefl (subst (λ z. y.0 <ℤ z) e k)
    clash (inr (e, h)) (inr (f, k)) = <ℤ_irrefl (≤ℤ-<ℤ-trans k h)

-- ---- 0 against a limit

zero-above : (l : Limit) →
    Tells (pairs.less (pos 0, pos 0) (lower_pair l)) (¬ ZeroAbove (some l)) (ZeroAbove (some l))
zero-above l = go l.strict l.plain
  where
    go : (b : Bool) (z : ℤ) →
        Tells (pairs.less (pos 0, pos 0) (z, inset b)) (¬ Clears b z (pos 0)) (Clears b z (pos 0))
    go true z = record {
      if-true = λ e h. true-false e (tells-false (less-tells (pos 0, pos 0) (z, pos 1)) (inl h));
      if-false = λ e. gone ((less-tells (pos 0, pos 0) (z, pos 1)).if-false e);
      not-both = λ n y. n y;
    }
      where
        gone : AtMostThat (z, pos 1) (pos 0, pos 0) → z <ℤ pos 0
        gone (inl h) = h
        gone (inr (e, h)) = absurd (<ℤ_irrefl (≤ℤ-<ℤ-trans h (record { lt = tt })))
    go false z = record {
      if-true = λ e h. true-false e (le→no h);
      if-false = λ e. gone ((less-tells (pos 0, pos 0) (z, pos 0)).if-false e);
      not-both = λ n y. n y;
    }
      where
        le→no : z ≤ℤ pos 0 → pairs.less (pos 0, pos 0) (z, pos 0) ≡ false
        le→no h = rw (le→false {a = z} {b = pos 0} h) (side (lt_z z (pos 0)))
          where
            side : (b : Bool) → lexicographic false b false ≡ false
            side true = refl
            side false = refl

        gone : AtMostThat (z, pos 0) (pos 0, pos 0) → z ≤ℤ pos 0
        gone (inl h) = <ℤ→≤ℤ h
        gone (inr (e, h)) = rw e (record { le = tt })

zero-below : (u : Limit) →
    Tells (pairs.less (upper_pair u) (pos 0, pos 0)) (¬ ZeroBelow (some u)) (ZeroBelow (some u))
zero-below u = go u.strict u.plain
  where
    go : (b : Bool) (z : ℤ) →
        Tells (pairs.less (z, neg_ℤ (inset b)) (pos 0, pos 0)) (¬ Clears b (pos 0) z) (Clears b (pos 0) z)
    go true z = record {
      if-true = λ e h. true-false e (tells-false (less-tells (z, neg_ℤ (pos 1)) (pos 0, pos 0)) (inl h));
      if-false = λ e. gone ((less-tells (z, neg_ℤ (pos 1)) (pos 0, pos 0)).if-false e);
      not-both = λ n y. n y;
    }
      where
        gone : AtMostThat (pos 0, pos 0) (z, neg_ℤ (pos 1)) → pos 0 <ℤ z
        gone (inl h) = h
        gone (inr (e, h)) = absurd (<ℤ_irrefl (≤ℤ-<ℤ-trans h (record { lt = tt })))
    go false z = record {
      if-true = λ e h. true-false e (no h);
      if-false = λ e. gone ((less-tells (z, pos 0) (pos 0, pos 0)).if-false e);
      not-both = λ n y. n y;
    }
      where
        no : pos 0 ≤ℤ z → pairs.less (z, pos 0) (pos 0, pos 0) ≡ false
        no h = rw (le→false {a = pos 0} {b = z} h) (side (lt_z (pos 0) z))
          where
            side : (b : Bool) → lexicographic false b false ≡ false
            side true = refl
            side false = refl

        gone : AtMostThat (pos 0, pos 0) (z, pos 0) → pos 0 ≤ℤ z
        gone (inl h) = <ℤ→≤ℤ h
        gone (inr (e, h)) = rw (← e) (record { le = tt })

-- ---- where a variable starts, by its limits as they were given

module _ (o p : Option Limit) (x : ℤ × ℤ) (S : StartsAt pairs (mapped lower_pair o) (mapped upper_pair p) x) where
  low-zero : ZeroAbove o → (l : ℤ × ℤ) → mapped lower_pair o ≡ some l → Lt pairs (pos 0, pos 0) l → ⊥
  unfolding mapped
  low-zero = go o
    where
      go : (o : Option Limit) → ZeroAbove o → (l : ℤ × ℤ) → mapped lower_pair o ≡ some l → Lt pairs (pos 0, pos 0) l → ⊥
      go none h l e k = none-ne-some l e
      go (some a) h l e k = let z : lower_pair a ≡ l = cc in
          (zero-above a).if-true (subst (λ y. Lt pairs (pos 0, pos 0) y) (sym z) k) h

  high_zero : ZeroBelow p → (u : ℤ × ℤ) → mapped upper_pair p ≡ some u → Lt pairs u (pos 0, pos 0) → ⊥
  unfolding mapped
  high_zero = go p
    where
      go : (p : Option Limit) → ZeroBelow p → (u : ℤ × ℤ) → mapped upper_pair p ≡ some u → Lt pairs u (pos 0, pos 0) → ⊥
      go none h u e k = none-ne-some u e
      go (some a) h u e k = let z : upper_pair a ≡ u = cc in
          (zero-below a).if-true (subst (λ y. Lt pairs y (pos 0, pos 0)) (sym z) k) h

  is_zero : ZeroAbove o → ZeroBelow p → x ≡ (pos 0, pos 0)
  is_zero h k = go S
    where
      go : StartsAt pairs (mapped lower_pair o) (mapped upper_pair p) x → x ≡ (pos 0, pos 0)
      go (at-nil f g e) = e
      go (at_low l q b e) = absurd (low-zero h l q b)
      go (at_high u q b f e) = absurd (high_zero k u q b)

  is-lower : (l : Limit) → o ≡ some l → ¬ ZeroAbove (some l) → x ≡ lower_pair l
  unfolding mapped
  is-lower l q n = go S
    where
      has : mapped lower_pair o ≡ some (lower_pair l)
      has = ap (mapped lower_pair) q

      go : StartsAt pairs (mapped lower_pair o) (mapped upper_pair p) x → x ≡ lower_pair l
      go (at-nil f g e) = absurd (n ((zero-above l).if-false (f (lower_pair l) has)))
      go (at_low k r b e) = let z : k ≡ lower_pair l = cc in e ∙ z
      go (at_high u r b f e) = absurd (n ((zero-above l).if-false (f (lower_pair l) has)))

  is-upper : ZeroAbove o → (u : Limit) → p ≡ some u → ¬ ZeroBelow (some u) → x ≡ upper_pair u
  unfolding mapped
  is-upper h u q n = go S
    where
      has : mapped upper_pair p ≡ some (upper_pair u)
      has = ap (mapped upper_pair) q

      go : StartsAt pairs (mapped lower_pair o) (mapped upper_pair p) x → x ≡ upper_pair u
      go (at-nil f g e) = absurd (n ((zero-below u).if-false (g (upper_pair u) has)))
      go (at_low k r b e) = absurd (low-zero h k r b)
      go (at_high k r b f e) = let z : k ≡ upper_pair u = cc in e ∙ z

module _ (P : Problem Limit) where
  value : (v : ℕ) → v < P.n → seat (start pairs (inner P)) v
      ≡ some (start_value pairs (mapped lower_pair (P.lower v)) (mapped upper_pair (P.upper v)))
  unfolding start_seat
  value v h = seat-start pairs (inner P) v (omega arith) ∙ rw (lt-true h) refl

  so : (v : ℕ) → StartsAt pairs (mapped lower_pair (P.lower v)) (mapped upper_pair (P.upper v))
      (start_value pairs (mapped lower_pair (P.lower v)) (mapped upper_pair (P.upper v)))
  so v = value-so pairs (mapped lower_pair (P.lower v)) (mapped upper_pair (P.upper v))

  pub started-so : Starts P (start pairs (inner P))
  unfolding start_seat
  started-so = record {
    problem-seated = λ v h. (_, value v h);
    rows-basic = λ v h k. seat-start pairs (inner P) v k ∙ rw (ge-false h) refl;
    at_zero = λ v h a b. value v h ∙ ap some (is_zero (P.lower v) (P.upper v) _ (so v) a b);
    at-lower = λ v l h e n. value v h ∙ ap some (is-lower (P.lower v) (P.upper v) _ (so v) l e n);
    at-upper = λ v u h a e n. value v h ∙ ap some (is-upper (P.lower v) (P.upper v) _ (so v) a u e n);
    over-one = common-one pairs (inner P);
    coefficients = λ i j h k.
        at-start pairs (inner P) (P.n + i) j (omega arith) (omega arith) ∙ row-row (inner P) i j k;
  }
