-- The search finds the same in both orders of the entries: t holds them in order o, l the same in order u.
--   row_same                   the sum of a row
--   next-same                  what the search comes to
--   pivot-places               the places of the pivot that it names are in use
use mathlib.Core.Bool.{Bool, true, false, cond}
use mathlib.Core.List.{List}
use mathlib.Core.Option.{Option, none, some, none-ne-some}
use mathlib.Core.Path.{◌≡◌, ap, ap₂, refl, ◌∙◌}
use Prim.Native.Nat.{ℕ, ◌+◌, ◌<◌}
use lib.IntN.{ℤ, pos, ◌*ℤ◌}
use lib.ListN.{get_or}
use Rattle.whole.specs.Values.{pairs}
use Rattle.whole.proofs.Lists.Below.{lowest-some}
use Rattle.whole.proofs.Bools.{zero_one}
use Rattle.whole.proofs.Numbers.Sums.{sum_same}
use Rattle.whole.proofs.Lists.Turns.{lowest-same}
use Rattle.rules.specs.Step.{Side, Leaving, shortfall_by, pull, suits}
use Rattle.tableau.specs.declared.Tableau.{Tableau}
use Rattle.layout.specs.Layout.{Order}
use Rattle.pivot.specs.TwoOrders.{SameCells}
use Rattle.tableau.specs.Parts.{value_at, seat_at, row_of, column_of, lowest_of, highest_of}
use Rattle.tableau.specs.Pivot.{with_numbers}
use Rattle.sides.specs.Sides.{side_of}
use Rattle.search.specs.declared.Choice.{Choice}
use Rattle.search.specs.declared.Next.TheVariants as variants
use Rattle.search.specs.Search.{Searchable, choice_at, move_by, tagged}
use Rattle.search.specs.Search.{sum_laid, row_sum_laid, side_laid, short_laid, broken_laid, leaving_laid}
use Rattle.search.specs.Search.{fitting_laid, enters_laid, entering_laid, next_by_laid, next_laid}

-- ---- the places that a search names

module _ (o : Order) {t : Tableau} (S : Searchable t) where
  broken-row : (v : ℕ) (r : Leaving (ℤ × ℤ)) → v < t.rows + t.columns → broken_laid o t v ≡ some r →
      row_of t r.variable < t.rows
  unfolding broken_laid
  broken-row v r h = go (seat_at t v).basic (side_laid o t v) refl
    where
      go : (b : Bool) (x : Option Side) → (seat_at t v).basic ≡ b →
          cond b (tagged v x (short_laid o t v)) none ≡ some r →
          row_of t r.variable < t.rows
      go true (some σ) e f = let z : v ≡ r.variable = cc in rw (← z) (S.row-seats v h e)
      go true none e f = absurd (none-ne-some r f)
      go false x e f = absurd (none-ne-some r f)

  leaving-row : (r : Leaving (ℤ × ℤ)) → leaving_laid o t ≡ some r → row_of t r.variable < t.rows
  unfolding leaving_laid
  leaving-row r e = let f = lowest-some (t.rows + t.columns) (broken_laid o t) r e in
      broken-row f.at r f.in-range f.is

  entered-column : (i : ℕ) (σ : Side) (v w : ℕ) → v < t.rows + t.columns → enters_laid o t i σ v ≡ some w →
      column_of t w < t.columns
  unfolding enters_laid
  entered-column i σ v w h = go (seat_at t v).basic (fitting_laid o t i σ v) refl
    where
      go : (b g : Bool) → (seat_at t v).basic ≡ b → cond b none (cond g (some v) none) ≡ some w →
          column_of t w < t.columns
      go true g e f = absurd (none-ne-some w f)
      go false true e f = let z : v ≡ w = cc in rw (← z) (S.column-seats v h e)
      go false false e f = absurd (none-ne-some w f)

  entering-column : (i : ℕ) (σ : Side) (w : ℕ) → entering_laid o t i σ ≡ some w → column_of t w < t.columns
  unfolding entering_laid
  entering-column i σ w e =
      let f = lowest-some (t.rows + t.columns) (enters_laid o t i σ) w e in
      entered-column i σ f.at w f.in-range f.is

  pub pivot-places : (c : Choice) → next_laid o t ≡ variants.Pivot c →
      (c.row.0 < t.rows) × (c.column.0 < t.columns)
  unfolding next_laid next_by_laid move_by
  pivot-places c = go (leaving_laid o t) refl
    where
      by : (r : Leaving (ℤ × ℤ)) (x : Option ℕ) → entering_laid o t (row_of t r.variable) r.side ≡ x →
          row_of t r.variable < t.rows → move_by t r x ≡ variants.Pivot c →
          (c.row.0 < t.rows) × (c.column.0 < t.columns)
      by r none e h f = let z : ◌≡◌ {A = ℕ} 0 1 = cc in zero_one z
      by r (some w) e h f = let z : choice_at t r w ≡ c = cc in
          rw (← z) (h, entering-column (row_of t r.variable) r.side w e)

      go : (x : Option (Leaving (ℤ × ℤ))) → leaving_laid o t ≡ x → next_by_laid o t x ≡ variants.Pivot c →
          (c.row.0 < t.rows) × (c.column.0 < t.columns)
      go none e f = let z : ◌≡◌ {A = ℕ} 0 1 = cc in zero_one z
      go (some r) e f = by r (entering_laid o t (row_of t r.variable) r.side) refl (leaving-row r e) f

-- ---- the same entries

module _ {o u : Order} {t : Tableau} {l : List ℤ} (C : SameCells o u t.rows t.columns t.entries l)
    (S : Searchable t) where
  -- the tableau with the other array
  abbrev s : Tableau
  s = with_numbers t t.common l

  -- plain parts or small parts
  pub row_same : (x : List ℤ) (i : ℕ) → i < t.rows →
      row_sum_laid o t.rows t.columns t.entries x i ≡ row_sum_laid u t.rows t.columns l x i
  unfolding sum_laid
  row_same x i h = sum_same t.columns _ _ (λ j k. ap (λ z. z *ℤ get_or x j (pos 0)) (C.same-cell i j h k))

  broken-same : (v : ℕ) → v < t.rows + t.columns → broken_laid o t v ≡ broken_laid u s v
  unfolding broken_laid
  broken-same v h = go (seat_at t v).basic refl
    where
      go : (b : Bool) → (seat_at t v).basic ≡ b →
          cond b (tagged v (side_laid o t v) (short_laid o t v)) none
          ≡ cond b (tagged v (side_laid u s v) (short_laid u s v)) none
      go true e = ap₂ (λ y z. tagged v (side_of t.common (y, z) (lowest_of t.limits v) (highest_of t.limits v))
          (shortfall_by pairs t.common (y, z) (lowest_of t.limits v) (highest_of t.limits v)))
          (row_same t.values (row_of t v) (S.row-seats v h e))
          (row_same t.smalls (row_of t v) (S.row-seats v h e))
      go false e = refl

  leaving-same : leaving_laid o t ≡ leaving_laid u s
  unfolding leaving_laid
  leaving-same = lowest-same (broken_laid o t) (broken_laid u s) (t.rows + t.columns) broken-same

  module _ (i : ℕ) (h : i < t.rows) (σ : Side) where
    enters-same : (w : ℕ) → w < t.rows + t.columns → enters_laid o t i σ w ≡ enters_laid u s i σ w
    unfolding enters_laid
    enters-same w k = go (seat_at t w).basic refl
      where
        go : (b : Bool) → (seat_at t w).basic ≡ b →
            cond b none (cond (fitting_laid o t i σ w) (some w) none)
            ≡ cond b none (cond (fitting_laid u s i σ w) (some w) none)
        go true e = refl
        go false e = ap (λ z. cond (suits pairs (pull σ z) (some (value_at t (column_of t w))) (lowest_of t.limits w)
            (highest_of t.limits w)) (some w) none) (C.same-cell i (column_of t w) h (S.column-seats w k e))

    entering-same : entering_laid o t i σ ≡ entering_laid u s i σ
    unfolding entering_laid
    entering-same = lowest-same (enters_laid o t i σ) (enters_laid u s i σ) (t.rows + t.columns) enters-same

  move_same : (r : Leaving (ℤ × ℤ)) (x : Option ℕ) → move_by t r x ≡ move_by s r x
  unfolding move_by
  move_same r none = refl
  move_same r (some w) = refl

  pub next-same : next_laid o t ≡ next_laid u (with_numbers t t.common l)
  unfolding next_laid next_by_laid
  next-same = go (leaving_laid o t) refl ∙ ap (next_by_laid u s) leaving-same
    where
      go : (x : Option (Leaving (ℤ × ℤ))) → leaving_laid o t ≡ x → next_by_laid o t x ≡ next_by_laid u s x
      go none e = refl
      go (some r) e = ap (move_by t r) (entering-same (row_of t r.variable) (leaving-row o S r e) r.side)
          ∙ move_same r _
