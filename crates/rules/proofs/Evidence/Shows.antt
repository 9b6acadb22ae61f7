-- The two tests of evidence say what the plain facts of specs/Facts/Evidence do.
--   right-can, right-cannot      over any numbers: `right_can` passes exactly when `Solution` holds, `right_cannot`
--   when
--                                `Refutation` does
--   shows-can                    verdict 1: `shows_can` passes exactly when `ShowsCan` holds
--   shows-cannot                 verdict 2: likewise
--   shown-tells                  the verdict with its evidence: `accepted` passes exactly when `Shown` holds
use mathlib.Core.Bool.{Bool, cond, false, not, true}
use mathlib.Core.List.{List, [], ◌∷◌}
use mathlib.Core.Logic.{inl, inr, ◌↔◌}
use mathlib.Core.Option.{Option, none-ne-some, none, some}
use mathlib.Core.Path.{ap, refl, sym, ◌≡◌}
use Prim.Native.Nat.{ℕ, ◌+◌, ◌<◌}
use lib.IntN.{pos, ℤ, ◌*ℤ◌, ◌-ℤ◌}
use lib.Signed.{le_z_yes, ◌<ℤ◌, ◌≤ℤ◌}
use Rattle.whole.proofs.Bools.{and-of, and-true, not-true, true-false}
use Rattle.whole.proofs.Tells.{tells_all, tells-and, tells-eq_z, tells-lt_z, tells-missing, tells-not, tells-or}
use Rattle.whole.proofs.Ring.Nonneg.{of_le, of_lt, slk}
use Rattle.whole.proofs.Ring.Reify.{reify}
use Rattle.whole.proofs.Ring.Tools.{le-at, lt_at}
use Rattle.whole.proofs.Tells.{tells-some, tells-true, tells-within}
use Rattle.whole.specs.Numbers.{Within, eq_z}
use Rattle.whole.specs.Tells.{Tells}
use Rattle.whole.specs.Values.{pairs, whole}
use Rattle.rules.specs.Evidence.{accepted, at_least, at_most, clears, column, contradicts, some_strict, strict_named}
use Rattle.rules.specs.Evidence.{denominator_of, lower_part, modest, owed, ranged_can, ranged_cannot, right_can}
use Rattle.rules.specs.Evidence.{right_cannot, row_sum, shows_can, shows_cannot, surplus, upper_part, verdict_of}
use Rattle.rules.specs.Problem.{Problem, vars}
use Rattle.rules.specs.Sizes.{largest_number, largest_numerator, largest_small}
use Rattle.rules.specs.Limit.{Limit}
use Rattle.rules.specs.Facts.Evidence.{Multiplier, Passes, Refutation, Shown, ShowsCan, ShowsCannot, Solution}
use Rattle.rules.specs.Facts.Evidence.{StrictNamed}

-- ---- one limit

low-tells : (d : ℤ) (x : ℤ × ℤ) (o : Option Limit) →
    Tells (at_least o d x) ((l : Limit) → o ≡ some l → clears l.strict (d *ℤ l.plain, pos 0) x ≡ true)
    ((l : Limit) × (o ≡ some l) × (clears l.strict (d *ℤ l.plain, pos 0) x ≡ false))
unfolding at_least
low-tells d x = tells-missing (λ o. at_least o d x) (λ l. clears l.strict (d *ℤ l.plain, pos 0) x) (λ l. refl) refl

high-tells : (d : ℤ) (x : ℤ × ℤ) (o : Option Limit) →
    Tells (at_most o d x) ((u : Limit) → o ≡ some u → clears u.strict x (d *ℤ u.plain, pos 0) ≡ true)
    ((u : Limit) × (o ≡ some u) × (clears u.strict x (d *ℤ u.plain, pos 0) ≡ false))
unfolding at_most
high-tells d x = tells-missing (λ o. at_most o d x) (λ u. clears u.strict x (d *ℤ u.plain, pos 0)) (λ u. refl) refl

passes-yes : (b : Bool) (x y : ℤ × ℤ) → clears b x y ≡ true → Passes b x y
passes-yes true x y e = e
passes-yes false x y e = not-true (pairs.less y x) e

passes_of : (b : Bool) (x y : ℤ × ℤ) → Passes b x y → clears b x y ≡ true
passes_of true x y e = e
passes_of false x y e = ap not e

named-yes : (o : Option Limit) (k : ℤ) → strict_named o k ≡ true → StrictNamed o k
unfolding strict_named
named-yes none k e = true-false e refl
named-yes (some l) k e = let (a, b) = and-true l.strict (not (eq_z k (pos 0))) e in
    (l, refl, a, (tells-not (tells-eq_z k (pos 0))).if-true b)

named-of : (o : Option Limit) (k : ℤ) → StrictNamed o k → strict_named o k ≡ true
unfolding strict_named
named-of o k (l, e, s, n) = rw e (and-of s (tells-true (tells-not (tells-eq_z k (pos 0))) n))

named-tells : (o : Option Limit) (k : ℤ) → Tells (strict_named o k) (StrictNamed o k) (¬ StrictNamed o k)
named-tells o k = record {
  if-true = named-yes o k;
  if-false = λ e n. true-false (named-of o k n) e;
  not-both = λ y n. n y;
}

owed-yes : (o : Option Limit) (k : ℤ) → owed o k ≡ true → Multiplier o k
unfolding owed
owed-yes none k e = let z = (tells-eq_z k (pos 0)).if-true e in
    rw z (record { least = le_z_yes tt; missing = λ q. refl })
owed-yes (some l) k e = record {
  least = (tells-not (tells-lt_z k (pos 0))).if-true e;
  missing = λ q. absurd (none-ne-some l (sym q));
}

owed-of : (o : Option Limit) (k : ℤ) → Multiplier o k → owed o k ≡ true
unfolding owed
owed-of none k M = tells-true (tells-eq_z k (pos 0)) (M.missing refl)
owed-of (some l) k M = tells-true (tells-not (tells-lt_z k (pos 0))) M.least

owed-tells : (o : Option Limit) (k : ℤ) → Tells (owed o k) (Multiplier o k) (¬ Multiplier o k)
owed-tells o k = record {
  if-true = owed-yes o k;
  if-false = λ e M. true-false (owed-of o k M) e;
  not-both = λ M n. n M;
}

-- at most the largest number
modest-tells : (z : ℤ) → Tells (modest z) (z ≤ℤ pos largest_number) (pos largest_number <ℤ z)
modest-tells z = tells-not (tells-lt_z (pos largest_number) z)

-- at least 1 is above 0
at_least_one : (d : ℤ) → pos 0 <ℤ d → pos 1 ≤ℤ d
at_least_one d h = le-at (d ∷ []) (of_lt h) (search reify depth 30) slk

above_zero : (d : ℤ) → pos 1 ≤ℤ d → pos 0 <ℤ d
above_zero d h = lt_at (d ∷ []) (of_le h) (search reify depth 30) slk

-- ---- over any numbers

module _ (P : Problem Limit) (d : ℤ) (x y : ℕ → ℤ) where
  pub right-can : (right_can P d x y ≡ true) ↔ Solution P d x y
  unfolding right_can
  right-can =
      let t = tells-and (tells-and (tells-and (tells-lt_z (pos 0) d)
      (tells_all P.m _ (λ i h. tells-eq_z (x (P.n + i)) (row_sum whole P x i))))
      (tells_all P.m _ (λ i h. tells-eq_z (y (P.n + i)) (row_sum whole P y i))))
      (tells_all (vars P) _ (λ v h. tells-and (low-tells d (x v, y v) (P.lower v))
      (high-tells d (x v, y v) (P.upper v)))) in (
        λ e. let f = t.if-true e in record {
          least = at_least_one d f.0.0.0;
          rows = f.0.0.1;
          small-rows = f.0.1;
          lowers = λ v h l k. passes-yes l.strict _ _ ((f.1 v h).0 l k);
          uppers = λ v h u k. passes-yes u.strict _ _ ((f.1 v h).1 u k);
        },
        λ S. tells-true t (
          ((above_zero d S.least, S.rows), S.small-rows),
          λ v h. (
            λ l k. passes_of l.strict _ _ (S.lowers v h l k),
            λ u k. passes_of u.strict _ _ (S.uppers v h u k),
          ),
        ),
      )

  ranged-can : (ranged_can P d x y ≡ true) ↔ (((d ≤ℤ pos largest_number)
      × ((v : ℕ) → v < vars P → Within (x v) largest_numerator))
      × ((v : ℕ) → v < vars P → Within (y v) largest_small))
  unfolding ranged_can
  ranged-can =
      let t = tells-and (tells-and (modest-tells d)
      (tells_all (vars P) _ (λ v h. tells-within largest_numerator (x v))))
      (tells_all (vars P) _ (λ v h. tells-within largest_small (y v))) in (t.if-true, tells-true t)

  pub right-cannot : (right_cannot P d x y ≡ true) ↔ Refutation P d x y
  unfolding right_cannot contradicts some_strict
  right-cannot =
      let t = tells-and (tells-and (tells-and (tells-eq_z d (pos 0))
      (tells_all (vars P) _ (λ v h. tells-and (owed-tells (P.lower v) (x v)) (owed-tells (P.upper v) (y v)))))
      (tells_all P.n _ (λ j h. tells-eq_z (column P (λ v. x v -ℤ y v) j) (pos 0))))
      (tells-or (tells-lt_z (pos 0) (surplus P x y)) (tells-and (tells-eq_z (surplus P x y) (pos 0))
      (tells-some (vars P) _ (λ v h. tells-or (named-tells (P.lower v) (x v)) (named-tells (P.upper v) (y v)))))) in (
        λ e. let f = t.if-true e in record {
          no-denominator = f.0.0.0;
          lowers = λ v h. (f.0.0.1 v h).0;
          uppers = λ v h. (f.0.0.1 v h).1;
          cancels = f.0.1;
          contradiction = f.1;
        },
        λ S. tells-true t (((S.no-denominator, λ v h. (S.lowers v h, S.uppers v h)), S.cancels), S.contradiction),
      )

  ranged-cannot : (ranged_cannot P x y ≡ true)
      ↔ ((v : ℕ) → v < vars P → (x v ≤ℤ pos largest_number) × (y v ≤ℤ pos largest_number))
  unfolding ranged_cannot
  ranged-cannot =
      let t = tells_all (vars P) _ (λ v h. tells-and (modest-tells (x v)) (modest-tells (y v))) in
      (t.if-true, tells-true t)

-- ---- in the words of an answer

module _ (P : Problem Limit) (a : List ℤ) where
  abbrev d : ℤ
  d = denominator_of a

  abbrev x : ℕ → ℤ
  x = lower_part a

  abbrev y : ℕ → ℤ
  y = upper_part (vars P) a

  pub shows-can : (shows_can P a ≡ true) ↔ ShowsCan P a
  unfolding shows_can
  shows-can = (
    λ e. let (r, s) = and-true (right_can P d x y) (ranged_can P d x y) e in
        let f = (ranged-can P d x y).0 s in
        record { right = (right-can P d x y).0 r; most = f.0.0; numerators = f.0.1; smalls = f.1 },
    λ S. and-of ((right-can P d x y).1 S.right)
        ((ranged-can P d x y).1 ((S.most, S.numerators), S.smalls)),
  )

  shows-cannot : (shows_cannot P a ≡ true) ↔ ShowsCannot P a
  unfolding shows_cannot
  shows-cannot = (
    λ e. let (r, s) = and-true (right_cannot P d x y) (ranged_cannot P x y) e in
        let f = (ranged-cannot P d x y).0 s in
        record {
          right = (right-cannot P d x y).0 r;
          lowers-most = λ v h. (f v h).0;
          uppers-most = λ v h. (f v h).1;
        },
    λ S. and-of ((right-cannot P d x y).1 S.right)
        ((ranged-cannot P d x y).1 (λ v h. (S.lowers-most v h, S.uppers-most v h))),
  )

  -- ---- either verdict

  shown-facts : accepted P a ≡ true → Shown P a
  unfolding accepted
  shown-facts e = go (eq_z (verdict_of a) (pos 1)) refl (eq_z (verdict_of a) (pos 2)) refl e
    where
      go : (b : Bool) → eq_z (verdict_of a) (pos 1) ≡ b → (c : Bool) → eq_z (verdict_of a) (pos 2) ≡ c →
          cond b (shows_can P a) (cond c (shows_cannot P a) false) ≡ true → Shown P a
      go true p c q e = inl ((tells-eq_z (verdict_of a) (pos 1)).if-true p, shows-can.0 e)
      go false p true q e = inr ((tells-eq_z (verdict_of a) (pos 2)).if-true q, shows-cannot.0 e)
      go false p false q e = true-false e refl

  shown-test : Shown P a → accepted P a ≡ true
  unfolding accepted
  shown-test (inl (e, S)) = rw e (shows-can.1 S)
  shown-test (inr (e, S)) = rw e (shows-cannot.1 S)

  pub shown-tells : Tells (accepted P a) (Shown P a) (¬ Shown P a)
  shown-tells = record { if-true = shown-facts; if-false = λ e S. true-false (shown-test S) e; not-both = λ S n. n S }
