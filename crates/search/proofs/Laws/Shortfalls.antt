-- How far outside its limits the leaving variable is, over D.
--   scaled-modest        D times a value is no more than largest_numerator, and its small part than largest_small,
--                        of a tableau that a search may read
--   shortfall-within     the shortfall is no more than largest_shortfall, and its small part than 19,327,352,823
--   shortfall-above      above 0, of a tableau that stands for a state
use mathlib.Core.Bool.{Bool, cond, false, true}
use mathlib.Core.Option.{Option, none-ne-some, none, some}
use mathlib.Core.Path.{◌≡◌, sym, ◌∙◌}
use Prim.Native.Nat.{ℕ, ◌+◌, ◌≤◌}
use native.Mathlib.Omega.{arith}
use lib.IntN.{ℤ, ◌*ℤ◌, ◌-ℤ◌}
use Rattle.whole.specs.Numbers.{Within}
use Rattle.whole.specs.Values.{Lt, pairs}
use Rattle.whole.proofs.Lists.Below.{lowest-some}
use Rattle.whole.proofs.Values.Beside.{pairs-laws}
use Rattle.whole.proofs.Numbers.Sizes.{within--, within-*, within-le}
use Rattle.rules.specs.Limit.{Limit, lower_pair, present, upper_pair}
use Rattle.rules.specs.Problem.{Problem, mapped}
use Rattle.rules.specs.Sizes.{largest_number, most_columns}
use Rattle.rules.specs.Step.{Leaving, Side, State, above, below, leaves, seated, shortfall_by}
use Rattle.rules.proofs.Step.Leaving.{left}
use Rattle.rules.proofs.Step.Rule.{shortfall-positive}
use Rattle.rules.specs.Facts.State.{Rowed}
use Rattle.amounts.specs.declared.Given.{Given}
use Rattle.amounts.specs.Amounts.{limit_in}
use Rattle.tableau.specs.declared.Tableau.{Tableau}
use Rattle.tableau.specs.Parts.{lower_given, row_of, seat_at, upper_given}
use Rattle.tableau.specs.Stands.{Stands}
use Rattle.sides.specs.Sides.{Modest, least_in, most_in}
use Rattle.sides.proofs.Laws.Modest.{NearLimit, lower-near, upper-near}
use Rattle.sides.proofs.Laws.Sides.{gap_parts, stated}
use Rattle.search.specs.Search.{Searchable, broken_at, broken_laid, leaving_at, leaving_laid, scaled_at, short_at}
use Rattle.search.specs.Search.{side_at, tagged}
use Rattle.search.specs.Shortfall.{Short}
use Rattle.search.proofs.Laws.Stands.{leaving-is}
use Rattle.search.proofs.Laws.Sums.{row_within}

-- a limit that is missing counts as 0
seated-near : (f : Limit → ℤ × ℤ) (g : Given) → NearLimit (f (stated g)) →
    NearLimit (seated pairs (mapped f (limit_in g)))
unfolding seated present mapped
seated-near f g h = go g.on
  where
    go : (b : Bool) → NearLimit (seated pairs (mapped f (present b (stated g))))
    go true = h
    go false = record { plain = record { within = omega arith }; small = record { within = omega arith } }

module _ (d : ℤ) (x y : ℤ × ℤ) (c : Within d largest_number) (h : NearLimit x) (m : Modest y) where
  below-short : Short (d *ℤ x.0 -ℤ y.0, d *ℤ x.1 -ℤ y.1)
  below-short = record {
    plain = within-- (within-* c h.plain) m.plain;
    small = within-- (within-* c h.small) m.small;
  }

  above-short : Short (y.0 -ℤ d *ℤ x.0, y.1 -ℤ d *ℤ x.1)
  above-short = record {
    plain = within-- m.plain (within-* c h.plain);
    small = within-- m.small (within-* c h.small);
  }

-- the shortfall of what is found is that of its variable and side
tagged-short : (v : ℕ) (b : Bool) (o : Option Side) (short : Side → ℤ × ℤ) → ((σ : Side) → Short (short σ)) →
    (r : Leaving (ℤ × ℤ)) → cond b (tagged v o short) none ≡ some r → Short r.shortfall
tagged-short v false o short h r e = absurd (none-ne-some r e)
tagged-short v true none short h r e = absurd (none-ne-some r e)
tagged-short v true (some σ) short h r e =
    let z : ◌≡◌ {A = Leaving (ℤ × ℤ)} (leaves v σ (short σ)) r = cc in rw (← z) (h σ)

module _ (t : Tableau) (S : Searchable t) where
  pub scaled-modest : (v : ℕ) → Modest (scaled_at t v)
  scaled-modest v = let h : t.columns ≤ most_columns = S.few-columns in record {
    plain = within-le (row_within t.rows t.columns t.entries t.values (row_of t v)
        S.cells.cell-within S.values-within t.columns) (omega arith);
    small = within-le (row_within t.rows t.columns t.entries t.smalls (row_of t v)
        S.cells.cell-within S.smalls-within t.columns) (omega arith);
  }

  short-within : (v : ℕ) (σ : Side) → Short (short_at t v σ)
  unfolding shortfall_by
  short-within v below = let g = lower_given t.limits v in
      rw (gap_parts (pairs.scale t.common (seated pairs (least_in g))) (scaled_at t v))
      (below-short t.common (seated pairs (least_in g)) (scaled_at t v) S.cells.common-within
      (seated-near lower_pair g (lower-near g (S.lowers-within v))) (scaled-modest v))
  short-within v above = let g = upper_given t.limits v in
      rw (gap_parts (scaled_at t v) (pairs.scale t.common (seated pairs (most_in g))))
      (above-short t.common (seated pairs (most_in g)) (scaled_at t v) S.cells.common-within
      (seated-near upper_pair g (upper-near g (S.uppers-within v))) (scaled-modest v))

  pub shortfall-within : (r : Leaving (ℤ × ℤ)) → leaving_at t ≡ some r → Short r.shortfall
  unfolding leaving_laid broken_laid
  shortfall-within r e = let f = lowest-some (t.rows + t.columns) (broken_at t) r e in
      tagged-short f.at (seat_at t f.at).basic (side_at t f.at) (short_at t f.at) (short-within f.at) r
      f.is

module _ (P : Problem (ℤ × ℤ)) (t : Tableau) (s : State (ℤ × ℤ)) (St : Stands P t s) (R : Rowed pairs P s) where
  pub shortfall-above : (r : Leaving (ℤ × ℤ)) → leaving_at t ≡ some r → Lt pairs pairs.nil r.shortfall
  shortfall-above r e = shortfall-positive pairs pairs-laws P s r
      (left pairs P s r (sym (leaving-is P t s St R) ∙ e))
