-- The search by place, turn by turn: where it goes on past a variable, where it stops, and what it comes to.
--   variable-few                  a variable in use has a place in the arrays
--   past-nonbasic, past-within    none leaves up to here, as this one is nonbasic, or is within its limits
--   leaves-here, no-one-leaves      this one leaves: it is the first one outside its limits; none does
--   enters-basic                  a basic variable does not enter
--   past-basic, past-unfit        none enters up to here, as this one is basic, or cannot move the one that leaves
--   enters-here, no-one-enters      this one enters: it is the first one that can; none does
--   row-of-leaving                   the row of the one that leaves is in use
--   next-within, -stuck, -pivot   what the search comes to: none leaves, none enters, or a row and a column
use Rattle.std.proofs.Common.{◌≡◌, ℕ, ◌+◌, ◌<◌, ℤ, Bool, true, false, cond, Some, None, refl, sym, ap, ap₂, ◌∙◌, arith}
use Rattle.std.proofs.Math.Option.{Option, none, some, none-ne-some}
use Rattle.std.proofs.lemmas.Option.{none-some}
use Rattle.whole.specs.Below.{lowest}
use Rattle.whole.proofs.Lists.Below.{lowest-some}
use Rattle.whole.proofs.Lists.Turns.{lowest-more, lowest-here}
use Rattle.rules.specs.Sizes.{most_variables}
use Rattle.rules.specs.Step.{Leaving, Side, below, above, leaves}
use Rattle.amounts.specs.Amounts.{pair_of}
use Rattle.layout.specs.declared.ColumnPlace.{ColumnPlace}
use Rattle.tableau.specs.declared.Tableau.{Tableau}
use Rattle.tableau.specs.Parts.{seat_at, row_of}
use Rattle.sides.specs.declared.Breach.{Breach}
use Rattle.sides.specs.Sides.{side_by, rising, as_breach}
use Rattle.search.specs.declared.Blocked.{Blocked}
use Rattle.search.specs.declared.Next.{Next}
use Rattle.search.specs.declared.Next.TheVariants as variants
use Rattle.search.specs.Search.{Searchable, short_at, side_at, tagged, broken_at, broken_laid, leaving_at, leaving_laid}
use Rattle.search.specs.Search.{fitting, entering_of, enters_laid, entering_at, entering_laid, move_by, blocked_at}
use Rattle.search.specs.Search.{blocked_by, blocked_in, column_by, column_seated, next_by, next_by_laid, next_at}
use Rattle.search.specs.Search.{next_laid}

rising-by : (b : Bool) → rising (side_by b) ≡ b
rising-by true = refl
rising-by false = refl

side-rising : (σ : Side) → side_by (rising σ) ≡ σ
side-rising below = refl
side-rising above = refl

pub variable-few : {t : Tableau} {v : ℕ} → Searchable t → v < t.rows + t.columns → v < most_variables
variable-few S h = omega (arith, S.few-rows, S.few-columns)

-- the variable that leaves by a breach
abbrev leaves_by : ℕ → Breach → Leaving (ℤ × ℤ)
leaves_by v b = leaves v (side_by b.rises) (pair_of b.shortfall)

module _ (v : ℕ) (short : Side → ℤ × ℤ) where
  no-breach : (o : Option Side) → as_breach o short ≡ None → tagged v o short ≡ none
  no-breach none e = refl
  no-breach (some σ) e = absurd (none-some _ (sym e))

  some-breach : (b : Breach) (o : Option Side) → as_breach o short ≡ Some b → tagged v o short ≡ some (leaves_by v b)
  some-breach b none e = absurd (none-some b e)
  some-breach b (some below) e = cc
  some-breach b (some above) e = cc

module _ (t : Tableau) where
  -- ---- the one that leaves: none is found before v

  module _ (v : ℕ) (n : lowest v (broken_at t) ≡ none) where
    broken-by : {b : Bool} → (seat_at t v).basic ≡ b →
        broken_at t v ≡ cond b (tagged v (side_at t v) (short_at t v)) none
    unfolding broken_laid
    broken-by e = ap (λ b. cond b (tagged v (side_at t v) (short_at t v)) none) e

    pub past-nonbasic : (seat_at t v).basic ≡ false → lowest (v + 1) (broken_at t) ≡ none
    past-nonbasic e = lowest-more (broken_at t) v n (broken-by e)

    module _ (e : (seat_at t v).basic ≡ true) where
      pub past-within : None ≡ as_breach (side_at t v) (short_at t v) → lowest (v + 1) (broken_at t) ≡ none
      past-within f = lowest-more (broken_at t) v n
          (broken-by e ∙ no-breach v (short_at t v) (side_at t v) (sym f))

      pub leaves-here : {b : Breach} → v < t.rows + t.columns → Some b ≡ as_breach (side_at t v) (short_at t v) →
          Some (record { row = (seat_at t v).row; rises = b.rises; shortfall = b.shortfall }) ≡ blocked_in t
      unfolding leaving_laid blocked_by
      leaves-here {b} h f = sym (ap (blocked_by t) (lowest-here (broken_at t) (t.rows + t.columns) v (leaves_by v b) h n
          (broken-by e ∙ some-breach v (short_at t v) b (side_at t v) (sym f)))
          ∙ ap (λ a. Some (record { row = (seat_at t v).row; rises = a; shortfall = b.shortfall })) (rising-by b.rises))

  pub no-one-leaves : (k : ℕ) → t.rows + t.columns ≡ k → lowest k (broken_at t) ≡ none → None ≡ blocked_in t
  unfolding leaving_laid blocked_by
  no-one-leaves k q n = sym (ap (blocked_by t) (ap (λ k. lowest k (broken_at t)) q ∙ n))

  -- ---- the one that enters, for row place i and side σ

  module _ (i : ℕ) (σ : Side) (w : ℕ) where
    pub enters-basic : (seat_at t w).basic ≡ true → entering_of t i σ w ≡ none
    unfolding enters_laid
    enters-basic e = ap (λ b. cond b none (cond (fitting t i σ w) (some w) none)) e

    enters-by : {g : Bool} → (seat_at t w).basic ≡ false → fitting t i σ w ≡ g →
        entering_of t i σ w ≡ cond g (some w) none
    unfolding enters_laid
    enters-by e f = ap₂ (λ b g. cond b none (cond g (some w) none)) e f

    -- none is found before w
    module _ (n : lowest w (entering_of t i σ) ≡ none) where
      pub past-basic : (seat_at t w).basic ≡ true → lowest (w + 1) (entering_of t i σ) ≡ none
      past-basic e = lowest-more (entering_of t i σ) w n (enters-basic e)

      pub past-unfit : (seat_at t w).basic ≡ false → fitting t i σ w ≡ false → lowest (w + 1) (entering_of t i σ) ≡ none
      past-unfit e f = lowest-more (entering_of t i σ) w n (enters-by e f)

      pub enters-here : w < t.rows + t.columns → (seat_at t w).basic ≡ false → fitting t i σ w ≡ true →
          Some (seat_at t w).column ≡ column_by t (entering_at t i σ)
      unfolding entering_laid column_by
      enters-here h e f = sym (ap (column_by t)
          (lowest-here (entering_of t i σ) (t.rows + t.columns) w w h n (enters-by e f)))

    pub no-one-enters : t.rows + t.columns ≡ w → lowest w (entering_of t i σ) ≡ none →
        None ≡ column_by t (entering_at t i σ)
    unfolding entering_laid column_by
    no-one-enters q n = sym (ap (column_by t) (ap (λ k. lowest k (entering_of t i σ)) q ∙ n))

  -- ---- what it comes to

  -- the one that leaves is basic
  is-basic : (v : ℕ) (b : Bool) (o : Option Side) (short : Side → ℤ × ℤ) (r : Leaving (ℤ × ℤ)) →
      cond b (tagged v o short) none ≡ some r → (b ≡ true) × (v ≡ r.variable)
  is-basic v false o short r e = absurd (none-ne-some r e)
  is-basic v true none short r e = absurd (none-ne-some r e)
  is-basic v true (some σ) short r e = (refl, cc)

  leaving-by : Searchable t → (o : Option (Leaving (ℤ × ℤ))) → leaving_at t ≡ o → (b : Blocked) →
      Some b ≡ blocked_by t o → b.row.0 < t.rows
  unfolding blocked_by leaving_laid broken_laid
  leaving-by S none q b e = absurd (none-some b (sym e))
  leaving-by S (some r) q b e = let f = lowest-some (t.rows + t.columns) (broken_at t) r q in
      let i = is-basic f.at (seat_at t f.at).basic (side_at t f.at) (short_at t f.at) r f.is in
      let h = S.row-seats f.at f.in-range i.0 in let same : b ≡ blocked_at t r = cc in rw (same, ← i.1) h

  pub row-of-leaving : Searchable t → {b : Blocked} → Some b ≡ blocked_in t → b.row.0 < t.rows
  row-of-leaving S {b} e = leaving-by S (leaving_at t) refl b e

  within-by : (o : Option (Leaving (ℤ × ℤ))) → None ≡ blocked_by t o → variants.Within ≡ next_by t o
  unfolding blocked_by next_by_laid
  within-by none e = refl
  within-by (some r) e = absurd (none-some _ e)

  pub next-within : None ≡ blocked_in t → variants.Within ≡ next_at t
  unfolding next_laid
  next-within e = within-by (leaving_at t) e

  stuck-by : (r : Leaving (ℤ × ℤ)) (o : Option ℕ) → None ≡ column_by t o →
      variants.Stuck (blocked_at t r) ≡ move_by t r o
  unfolding column_by move_by
  stuck-by r none e = refl
  stuck-by r (some w) e = absurd (none-some _ e)

  pub next-stuck : {b : Blocked} → Some b ≡ blocked_in t → None ≡ column_seated t b.row.0 b.rises →
      variants.Stuck b ≡ next_at t
  unfolding next_laid blocked_by next_by_laid
  next-stuck {b} e f = go (leaving_at t) e
    where
      go : (o : Option (Leaving (ℤ × ℤ))) → Some b ≡ blocked_by t o → variants.Stuck b ≡ next_by t o
      go none e = absurd (none-some b (sym e))
      go (some r) e = let same : b ≡ blocked_at t r = cc in
          ap variants.Stuck same
          ∙ stuck-by r (entering_at t (row_of t r.variable) r.side) (f ∙ ap (λ b. column_seated t b.row.0 b.rises) same
          ∙ ap (λ σ. column_by t (entering_at t (row_of t r.variable) σ)) (side-rising r.side))

  -- a pivot, by the one that leaves
  abbrev pivot_of : Blocked → ColumnPlace → Next
  pivot_of b j = variants.Pivot (record { row = b.row; column = j; rises = b.rises; shortfall = b.shortfall })

  pivot-by : (r : Leaving (ℤ × ℤ)) (o : Option ℕ) (j : ColumnPlace) → Some j ≡ column_by t o →
      pivot_of (blocked_at t r) j ≡ move_by t r o
  unfolding column_by move_by
  pivot-by r none j e = absurd (none-some j (sym e))
  pivot-by r (some w) j e = let same : j ≡ (seat_at t w).column = cc in ap (pivot_of (blocked_at t r)) same

  pub next-pivot : {b : Blocked} {j : ColumnPlace} → Some b ≡ blocked_in t → Some j ≡ column_seated t b.row.0 b.rises →
      pivot_of b j ≡ next_at t
  unfolding next_laid blocked_by next_by_laid
  next-pivot {b} {j} e f = go (leaving_at t) e
    where
      go : (o : Option (Leaving (ℤ × ℤ))) → Some b ≡ blocked_by t o → pivot_of b j ≡ next_by t o
      go none e = absurd (none-some b (sym e))
      go (some r) e = let same : b ≡ blocked_at t r = cc in
          ap (λ b. pivot_of b j) same
          ∙ pivot-by r (entering_at t (row_of t r.variable) r.side) j (f
          ∙ ap (λ b. column_seated t b.row.0 b.rises) same
          ∙ ap (λ σ. column_by t (entering_at t (row_of t r.variable) σ)) (side-rising r.side))
