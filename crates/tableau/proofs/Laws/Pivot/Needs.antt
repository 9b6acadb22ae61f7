-- What the code asks for before a pivot that the rules choose, and what may be asked of it afterwards.
--   pivotable, swappable    the pivot may be made, and its two variables may change places
--   limit_is                what the leaving variable gets is the violated limit
--   ranged-next             a pivot that passes the range test leaves every number and every value in range
use Prim.Native.Nat.{ℕ, ◌<◌}
use native.Mathlib.Omega.{arith}
use native.Mathlib.Decide.{ℕ_discrete}
use mathlib.Core.Path.{◌≡◌, refl, ap, sym, subst, ◌∙◌}
use mathlib.Core.Bool.{Bool, true, false}
use mathlib.Core.Option.{some, none-ne-some}
use lib.IntN.{ℤ, pos, neg_ℤ}
use lib.ListN.{length}
use Rattle.whole.specs.Numbers.{Within}
use Rattle.whole.specs.Values.{pairs}
use Rattle.rules.specs.Limit.{Limit, inset, lower_pair, present, upper_pair}
use Rattle.rules.specs.Problem.{Problem, mapped, vars}
use Rattle.rules.specs.Sizes.{most_variables, largest_limit}
use Rattle.rules.specs.Step.{State, Side, below, above, Leaving}
use Rattle.rules.specs.Facts.Rule.{Outside, too-high, too-low}
use Rattle.pivot.specs.Pivot.{Pivotable, small_below}
use Rattle.amounts.specs.declared.Given.{Given}
use Rattle.amounts.specs.Amounts.{given_lower, given_upper}
use Rattle.tableau.specs.declared.Limits.{Limits}
use Rattle.tableau.specs.declared.Tableau.{Tableau}
use Rattle.tableau.specs.Parts.{value_at, basic_at, nonbasic_at, lower_given, upper_given}
use Rattle.tableau.specs.Pivot.{Cells, Swappable, pivoted_laid, swapped_at}
use Rattle.tableau.specs.Stands.{Ranged}
use Rattle.rules.proofs.Refusal.Accepted.{inset-within, outset-within}
use Rattle.tableau.proofs.Laws.Stands.Pivot.{stands-next}
use Rattle.tableau.proofs.Laws.Exchange.{value-here, value-other}
use Rattle.tableau.proofs.Laws.Live.{end}
use Rattle.tableau.proofs.Laws.Stands.Range.{cells-small}
use Rattle.tableau.proofs.Laws.Pivot.Places.{Turn, p, q, x, at_turn, after_turn, leaving-row}
use Rattle.tableau.proofs.Laws.Pivot.Places.{entering-column, row-in-range, column-in-range}
use Rattle.tableau.proofs.Laws.Pivot.Places.{turn-nonzero, common-nonzero}

-- what a variable's limit on a side stands for
abbrev pub limit_number : Side → Limits → ℕ → ℤ × ℤ
limit_number below l v = given_lower (lower_given l v)
limit_number above l v = given_upper (upper_given l v)

present-some : (f : Limit → ℤ × ℤ) (b : Bool) (l : Limit) (x : ℤ × ℤ) → mapped f (present b l) ≡ some x → f l ≡ x
unfolding present mapped
present-some f true l x e = cc
present-some f false l x e = absurd (none-ne-some x e)

module _ {P : Problem (ℤ × ℤ)} {t : Tableau} {s : State (ℤ × ℤ)} {r : Leaving (ℤ × ℤ)} {w : ℕ}
    (M : Turn P t s r w) where
  few : (v : ℕ) → v < vars P → v < most_variables
  few v h = let a = M.stands.sized.few-rows in let b = M.stands.sized.few-columns in omega arith

  pub pivotable : Cells t → Pivotable t.rows t.columns t.entries t.common (p M) (q M)
  pivotable c = record {
    few-rows = rw M.stands.sized.rows_is M.stands.sized.few-rows;
    few-columns = rw M.stands.sized.columns-is M.stands.sized.few-columns;
    in_rows = rw M.stands.sized.rows_is (leaving-row M).in_rows;
    in-columns = rw M.stands.sized.columns-is (entering-column M).in-columns;
    common-within = c.common-within;
    all-within = record { each = c.cell-within };
    common-nonzero = common-nonzero M;
    pivot-nonzero = turn-nonzero M;
  }

  pub swappable : Swappable t (p M) (q M)
  swappable = record {
    in_rows = row-in-range M;
    in-columns = column-in-range M;
    leaving-seat = few (basic_at t (p M)) (M.stands.placed.in_row (p M) (leaving-row M).in_rows).variable-in;
    entering-seat = few (nonbasic_at t (q M))
        (M.stands.placed.in-column (q M) (entering-column M).in-columns).variable-in;
  }

  -- ---- the limit that the leaving variable gets

  abbrev limit : Given → Limit
  limit g = record { plain = g.plain; strict = g.strict }

  pub limit_is : limit_number r.side t.limits r.variable ≡ x M
  limit_is = go M.left.outside
    where
      go : {σ : Side} {y : ℤ × ℤ} → Outside pairs P s r.variable σ y → limit_number σ t.limits r.variable ≡ y
      go {y} (too-low e h) =
          let g : Given = lower_given t.limits r.variable in
          present-some lower_pair g.on (limit g) y
          (sym (M.stands.serves.lower-is r.variable M.left.variable) ∙ e)
      go {y} (too-high e h) =
          let g : Given = upper_given t.limits r.variable in
          present-some upper_pair g.on (limit g) y
          (sym (M.stands.serves.upper_is r.variable M.left.variable) ∙ e)

  limit-within : Within (x M).0 largest_limit
  limit-within = rw (← limit_is) (go r.side)
    where
      go : (σ : Side) → Within (limit_number σ t.limits r.variable).0 largest_limit
      go below = M.stands.serves.lowers-within r.variable
      go above = M.stands.serves.uppers-within r.variable

  limit-small : Within (x M).1 1
  limit-small = rw (← limit_is) (go r.side)
    where
      go : (σ : Side) → Within (limit_number σ t.limits r.variable).1 1
      go below = inset-within (lower_given t.limits r.variable).strict
      go above = outset-within (upper_given t.limits r.variable).strict

  limit-plain : t.limits.strict ≡ false → (x M).1 ≡ pos 0
  limit-plain e = rw (← limit_is) (go r.side)
    where
      go : (σ : Side) → (limit_number σ t.limits r.variable).1 ≡ pos 0
      go below = ap inset (M.stands.serves.lowers-plain e r.variable)
      go above = ap (λ b. neg_ℤ (inset b)) (M.stands.serves.uppers-plain e r.variable)

  -- ---- afterwards

  -- what holds of every value, and of the limit, holds of every value then
  each_next : (Q : ℤ × ℤ → Type 0) → ((j : ℕ) → Q (value_at t j)) → Q (x M) → (j : ℕ) → Q (value_at (after_turn M) j)
  each_next Q h k j = go (ℕ_discrete j (q M))
    where
      long : q M < length (at_turn M).values
      long = unfold pivoted_laid in (rw M.stands.sized.values-long (column-in-range M))

      small-long : q M < length (at_turn M).smalls
      small-long = unfold pivoted_laid in (rw M.stands.sized.smalls-long (column-in-range M))

      before : (j : ℕ) → Q (value_at (at_turn M) j)
      before = unfold pivoted_laid in h

      go : Dec (j ≡ q M) → Q (value_at (after_turn M) j)
      go (yes e) =
          subst Q (sym (ap (value_at (after_turn M)) e ∙ value-here (at_turn M) (p M) (q M) (x M) long small-long)) k
      go (no n) = subst Q (sym (value-other (at_turn M) (p M) (q M) (x M) j n)) (before j)

  limits-next : (after_turn M).limits ≡ t.limits
  unfolding swapped_at pivoted_laid
  limits-next = refl

  pub ranged-next : Ranged t → small_below (end (after_turn M)) (after_turn M).entries (after_turn M).common ≡ true →
      Ranged (after_turn M)
  ranged-next g e = record {
    cells = cells-small (stands-next M) e;
    values-within = each_next (λ z. Within z.0 largest_limit) g.values-within limit-within;
    smalls-within = each_next (λ z. Within z.1 1) g.smalls-within limit-small;
    smalls-plain = λ f.
        let h : t.limits.strict ≡ false = sym (ap (λ (l : Limits). l.strict) limits-next) ∙ f in
        each_next (λ z. z.1 ≡ pos 0) (g.smalls-plain h) (limit-plain h);
  }
