-- The checker's two rules as tests one after the other, over the problem that readable entries and limits hold. Each
-- law has the tests before as true.
--   can-denominator, can-numerators, can-smalls, can-limits    the first test that fails, or the last
--   cannot-denominator, cannot-multipliers, cannot-columns
--   cannot-surplus, cannot-strict, cannot-plain                the last: a total other than 0, and 0
use mathlib.Core.Path.{◌≡◌, refl, ap, sym, ◌∙◌}
use mathlib.Core.Bool.{Bool, true, false, not, ◌&&◌, ◌||◌}
use mathlib.Core.List.{List}
use Prim.Native.Nat.{ℕ, zero, suc, ◌+◌, ◌<◌}
use native.Mathlib.Omega.{arith}
use lib.IntN.{ℤ, negsuc, pos, ◌*ℤ◌}
use lib.ListN.{drop}
use lib.Signed.{lt_z}
use Rattle.whole.specs.Below.{all_below}
use Rattle.whole.specs.Numbers.{outside, eq_z, is_pos, within}
use Rattle.whole.specs.Sums.{sum}
use Rattle.whole.proofs.Lists.Below.{all-each, all_of, some-empty}
use Rattle.whole.proofs.Bools.{and-of, and-true, or-of, same_tests}
use Rattle.whole.proofs.Tells.{tells-eq_z, tells-lt, tells-not, tells-true}
use Rattle.rules.specs.Sizes.{largest_number, largest_numerator, largest_small}
use Rattle.rules.specs.Limit.{Limit, present}
use Rattle.rules.specs.Problem.{Problem}
use Rattle.rules.specs.Evidence.{denominator_of, lower_part, upper_part, column, surplus, shows_can, shows_cannot}
use Rattle.rules.specs.Evidence.{contradicts, modest, owed, ranged_can, ranged_cannot, right_can, right_cannot}
use Rattle.rules.specs.Evidence.{some_strict}
use Rattle.rules.specs.Evidence.{strict_named}
use Rattle.layout.specs.Layout.{entry_in}
use Rattle.tableau.specs.declared.Limits.{Limits}
use Rattle.tableau.specs.Parts.{lower_given, lower_of, upper_given, upper_of}
use Rattle.parts.specs.Reads.{Readable, problem_of, numerators_fit, row_up_to, rows_hold, half_holds, limits_up_to}
use Rattle.parts.specs.Reads.{limits_hold, multipliers_fair, column_up_to, columns_cancel, surplus_up_to, surplus_of}
use Rattle.parts.specs.Reads.{named_at, some_named}
use Rattle.parts.proofs.Laws.Halves.{second-half}
use Rattle.parts.proofs.Laws.Tests.{not-either}
use Rattle.rules.proofs.Evidence.Joined.{or-none}

-- the tests by halves: p and m of the denominator, r and n of the numerators, q and s of the small parts, l of limits
by-halves : (p r q l m n s : Bool) → (p && r && q && l && (m && n && s)) ≡ (p && m && (n && r) && (s && q) && l)
by-halves p r q l m n s = same_tests _ _
    (λ e. let (x, y) = and-true (p && r && q && l) (m && n && s) e in
    let (a, d) = and-true (p && r && q) l x in let (b, c) = and-true (p && r) q a in
    let (g, h) = and-true p r b in let (i, k) = and-true (m && n) s y in let (u, v) = and-true m n i in
    and-of (and-of (and-of (and-of g u) (and-of v h)) (and-of k c)) d)
    (λ e. let (x, d) = and-true (p && m && (n && r) && (s && q)) l e in
    let (y, z) = and-true (p && m && (n && r)) (s && q) x in let (k, c) = and-true s q z in
    let (w, t) = and-true (p && m) (n && r) y in let (v, h) = and-true n r t in let (g, u) = and-true p m w in
    and-of (and-of (and-of (and-of g h) c) d) (and-of (and-of u v) k))

-- the denominator's two sides
one_side : (d : ℤ) → not (lt_z d (pos 1)) ≡ is_pos d
one_side (pos zero) = refl
one_side (pos (suc n)) = tells-true (tells-not (tells-lt (suc n) 1)) (omega arith)
    ∙ sym (tells-true (tells-lt 0 (suc n)) (omega arith))
one_side (negsuc n) = refl

both-sides : (d : ℤ) → not (outside 1 largest_number d) ≡ (is_pos d && modest d)
unfolding outside
both-sides d = not-either (lt_z d (pos 1)) (lt_z (pos largest_number) d) ∙ ap (λ (b : Bool). b && modest d) (one_side d)

-- multipliers: owed and modest, each for itself
each-for-itself : (k : ℕ) (f g f' g' : ℕ → Bool) →
    all_below k (λ v. (f v && g v) && (f' v && g' v)) ≡ (all_below k (λ v. f v && f' v) && all_below k
    (λ v. g v && g' v))
each-for-itself k f g f' g' = same_tests _ _
    (λ e. and-of (all_of k _ (λ v h. let p = parts e v h in and-of p.0.0 p.1.0))
    (all_of k _ (λ v h. let p = parts e v h in and-of p.0.1 p.1.1)))
    (λ e. let (a, b) = and-true (all_below k (λ v. f v && f' v)) (all_below k (λ v. g v && g' v)) e in
    all_of k _ (λ v h. let (p, q) = and-true (f v) (f' v) (all-each k (λ v. f v && f' v) a v h) in
    let (r, s) = and-true (g v) (g' v) (all-each k (λ v. g v && g' v) b v h) in and-of (and-of p r) (and-of q s)))
  where
    parts : all_below k (λ v. (f v && g v) && (f' v && g' v)) ≡ true → (v : ℕ) → v < k →
        ((f v ≡ true) × (g v ≡ true)) × ((f' v ≡ true) × (g' v ≡ true))
    parts e v h =
        let (a, b) = and-true (f v && g v) (f' v && g' v)
        (all-each k (λ v. (f v && g v) && (f' v && g' v)) e v h) in
        (and-true (f v) (g v) a, and-true (f' v) (g' v) b)

-- the range of the multipliers, tested where they are
range-first : (e o c k m : Bool) → (e && o && c && k && m) ≡ (e && (o && m) && c && k)
range-first e o c k m = same_tests _ _
    (λ q. let (x, t) = and-true (e && o && c && k) m q in let (y, w) = and-true (e && o && c) k x in
    let (z, v) = and-true (e && o) c y in let (r, s) = and-true e o z in
    and-of (and-of (and-of r (and-of s t)) v) w)
    (λ q. let (x, w) = and-true (e && (o && m) && c) k q in let (y, v) = and-true (e && (o && m)) c x in
    let (r, z) = and-true e (o && m) y in let (s, t) = and-true o m z in
    and-of (and-of (and-of (and-of r s) v) w) t)

-- ---- the last test of verdict 2

far : (t : ℤ) (b : Bool) → eq_z t (pos 0) ≡ false → contradicts t b ≡ is_pos t
unfolding contradicts
far t b e = ap (λ (c : Bool). is_pos t || (c && b)) e ∙ or-none (is_pos t)

near : (t : ℤ) (b : Bool) → eq_z t (pos 0) ≡ true → contradicts t b ≡ b
unfolding contradicts
near t b e = ap (λ z. contradicts z b) ((tells-eq_z t (pos 0)).if-true e)

not_named : (there : Bool) (l : Limit) (k : ℤ) → l.strict ≡ false → strict_named (present there l) k ≡ false
unfolding strict_named present
not_named true l k e = rw e refl
not_named false l k e = refl

module _ {entries : List ℤ} {limits : Limits} {rows columns : ℕ} {a : List ℤ}
    (R : Readable entries limits rows columns a) where
  abbrev P : Problem Limit
  P = problem_of entries limits rows columns

  abbrev variables : ℕ
  variables = columns + rows

  -- ---- verdict 1

  abbrev denominator_fits : Bool
  denominator_fits = not (outside 1 largest_number (denominator_of a))

  abbrev numerators_hold : Bool
  numerators_hold = half_holds largest_numerator entries a rows columns

  abbrev smalls_hold : Bool
  smalls_hold = half_holds largest_small entries (drop variables a) rows columns

  abbrev all-limits : Bool
  all-limits = limits_hold limits a variables (denominator_of a)

  tests : shows_can P a ≡ (denominator_fits && numerators_hold && smalls_hold && all-limits)
  unfolding shows_can right_can ranged_can problem_of row_up_to limits_up_to
  tests = ap (λ (y : ℕ → ℤ). is_pos (denominator_of a) && rows_hold entries a rows columns
      && all_below rows (λ i. eq_z (y (columns + i)) (sum columns (λ j. entry_in rows columns entries i j *ℤ y j)))
      && all-limits && (modest (denominator_of a) && numerators_fit largest_numerator a variables
      && all_below variables (λ v. within largest_small (y v)))) (sym (second-half a variables))
      ∙ by-halves (is_pos (denominator_of a)) (rows_hold entries a rows columns) _ all-limits
      (modest (denominator_of a))
      (numerators_fit largest_numerator a variables) _
      ∙ ap (λ (b : Bool). b && numerators_hold && smalls_hold && all-limits) (sym (both-sides (denominator_of a)))

  pub can-denominator : outside 1 largest_number (denominator_of a) ≡ true → shows_can P a ≡ false
  can-denominator d = tests ∙ (rw d refl)

  module _ (d : outside 1 largest_number (denominator_of a) ≡ false) where
    pub can-numerators : numerators_hold ≡ false → shows_can P a ≡ false
    can-numerators e = tests ∙ (rw (d, e) refl)

    module _ (n : numerators_hold ≡ true) where
      pub can-smalls : smalls_hold ≡ false → shows_can P a ≡ false
      can-smalls e = tests ∙ (rw (d, n, e) refl)

      pub can-limits : smalls_hold ≡ true → shows_can P a ≡ all-limits
      can-limits s = tests ∙ (rw (d, n, s) refl)

  -- ---- verdict 2

  abbrev total : ℤ
  total = surplus_of limits a variables

  cannot-tests : shows_cannot P a ≡ (eq_z (denominator_of a) (pos 0) && multipliers_fair limits a variables
      && columns_cancel entries a rows columns && contradicts total (some_named limits a variables))
  unfolding shows_cannot right_cannot ranged_cannot problem_of multipliers_fair column_up_to surplus_up_to column
      surplus
      some_strict some_named
  cannot-tests = range-first (eq_z (denominator_of a) (pos 0)) _ (columns_cancel entries a rows columns)
      (contradicts total (some_named limits a variables)) _
      ∙ ap (λ (b : Bool). eq_z (denominator_of a) (pos 0) && b && columns_cancel entries a rows columns
      && contradicts total (some_named limits a variables))
      (sym (each-for-itself variables (λ v. owed (lower_of limits v) (lower_part a v)) (λ v. modest (lower_part a v))
      (λ v. owed (upper_of limits v) (upper_part variables a v)) (λ v. modest (upper_part variables a v))))

  pub cannot-denominator : eq_z (denominator_of a) (pos 0) ≡ false → shows_cannot P a ≡ false
  cannot-denominator d = cannot-tests ∙ (rw d refl)

  module _ (d : eq_z (denominator_of a) (pos 0) ≡ true) where
    pub cannot-multipliers : multipliers_fair limits a variables ≡ false → shows_cannot P a ≡ false
    cannot-multipliers e = cannot-tests ∙ (rw (d, e) refl)

    module _ (f : multipliers_fair limits a variables ≡ true) where
      pub cannot-columns : columns_cancel entries a rows columns ≡ false → shows_cannot P a ≡ false
      cannot-columns e = cannot-tests ∙ (rw (d, f, e) refl)

      module _ (c : columns_cancel entries a rows columns ≡ true) where
        last-test : shows_cannot P a ≡ contradicts total (some_named limits a variables)
        last-test = cannot-tests ∙ (rw (d, f, c) refl)

        pub cannot-surplus : eq_z total (pos 0) ≡ false → shows_cannot P a ≡ is_pos total
        cannot-surplus e = last-test ∙ far total _ e

        module _ (z : eq_z total (pos 0) ≡ true) where
          pub cannot-strict : shows_cannot P a ≡ some_named limits a variables
          cannot-strict = last-test ∙ near total _ z

          pub cannot-plain : limits.strict ≡ false → shows_cannot P a ≡ false
          unfolding some_named
          cannot-plain e = cannot-strict ∙ some-empty variables (named_at limits a variables) (λ v h. or-of
              (not_named (lower_given limits v).on _ (lower_part a v) (R.limited.lowers-plain e v))
              (not_named (upper_given limits v).on _ (upper_part variables a v) (R.limited.uppers-plain e v)))
