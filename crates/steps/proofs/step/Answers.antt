-- `steps::step` meets its contract: the answer of the search, and after a pivot that of the range test, is the
-- definition's case. Assumes nothing.
use mathlib.Core.Bool.{Bool, true, false}
use mathlib.Core.List.{List}
use mathlib.Core.Path.{◌≡◌, ap, ap₂, refl, subst, sym, ◌∙◌}
use Prim.Native.Nat.{ℕ}
use borrow.Author.Rules.{rules}
use lib.IntN.{ℤ}
use mir.Facts.{to_z-of_z}
use mir.Syntax.{w32}
use mir.Val.{SFits}
use Rattle.whole.proofs.Bools.{zero_one}
use Rattle.whole.proofs.Numbers.Sizes.{fits-by}
use Rattle.std.proofs.Common.{Some, None}
use Rattle.tableau.specs.declared.Tableau.{Tableau}
use Rattle.layout.specs.Layout.{live}
use Rattle.pivot.specs.Pivot.{PutBy, pivoted_by}
use Rattle.pivot.proofs.Laws.Wide.Reductions.{fits-common}
use Rattle.search.specs.declared.Choice.{Choice}
use Rattle.search.specs.declared.Next.{Next}
use Rattle.search.specs.declared.Next.TheVariants as nexts
use Rattle.search.specs.Search.{next_at, seen}
use Rattle.steps.specs.declared.Outcome.TheVariants as outcomes
use Rattle.steps.specs.Step.{PutAt, PutWhere, answer_by, common_moved, entries_moved, fits_by, outcome_by}
use Rattle.steps.proofs.step.Goals as goal

-- ---- a pivot is chosen

pub bounds-view-row : goal.bounds-view-row
bounds-view-row c = (c.requires.steppable.movable c.in-Pivot.choice (sym c.in-Pivot.ensures)).row-place

pub bounds-limits-leaving : goal.bounds-limits-leaving
bounds-limits-leaving c = (c.requires.steppable.movable c.in-Pivot.choice (sym c.in-Pivot.ensures)).leaving-seat

pub bounds-limits-leaving-in-Pivot : goal.bounds-limits-leaving-in-Pivot
bounds-limits-leaving-in-Pivot c =
    (c.requires.steppable.movable c.in-Pivot.choice (sym c.in-Pivot.ensures)).leaving-seat

pub pivot-requires : goal.pivot-requires
pivot-requires c =
    let fit : SFits w32 c.args.view.common = search rules in
    let m = c.requires.steppable.movable c.in-Pivot.choice (sym c.in-Pivot.ensures) in
    simp (to_z-of_z fit) (record { able = m.pivotable; next_len = c.requires.next_len })

-- ---- what the pivot answers tells whether it is in range

common-told : (b : Bool) (d z : ℤ) → pivoted_by b d ≡ Some z → (b ≡ true) × (d ≡ z)
common-told true d z e = (refl, cc)
common-told false d z e = let y : ◌≡◌ {A = ℕ} 0 1 = cc in zero_one y

beyond-told : (b : Bool) (d : ℤ) → pivoted_by b d ≡ None → b ≡ false
beyond-told true d e = let y : ◌≡◌ {A = ℕ} 0 1 = cc in zero_one y
beyond-told false d e = refl

-- ---- the answer and the entries, where a pivot is chosen

module _ (t : Tableau) (w : Choice) (chosen_is : next_at t ≡ nexts.Pivot w) where
  answer-is : (b : Bool) → fits_by t w ≡ b → answer_by b t w ≡ outcome_by t (next_at t)
  unfolding outcome_by
  answer-is b e = ap (λ b. answer_by b t w) (sym e) ∙ sym (ap (outcome_by t) chosen_is)

  put_is : (next : List ℤ) → PutBy (fits_by t w) (live t.rows t.columns) (entries_moved t w) next → PutAt t next
  unfolding PutWhere
  put_is next p = subst (λ (n : Next). PutWhere t n next) (sym chosen_is) p

pub returns-in-Within : goal.returns-in-Within
unfolding outcome_by PutWhere
returns-in-Within c = let t = seen c.args.entries.now c.args.view c.args.limits in
    let e : next_at t ≡ nexts.Within = sym c.in-Within.ensures in record {
      answer = sym (ap (outcome_by t) e);
      numbers = subst (λ (n : Next). PutWhere t n c.args.next.now) (sym e) tt;
    }

pub returns-in-Stuck : goal.returns-in-Stuck
unfolding outcome_by PutWhere
returns-in-Stuck c = let t = seen c.args.entries.now c.args.view c.args.limits in
    let e : next_at t ≡ nexts.Stuck c.in-Stuck.blocked = sym c.in-Stuck.ensures in record {
      answer = sym (ap (outcome_by t) e);
      numbers = subst (λ (n : Next). PutWhere t n c.args.next.now) (sym e) tt;
    }

pub returns-in-Some : goal.returns-in-Some
returns-in-Some c =
    let t = seen c.args.entries.now c.args.view c.args.limits in
    let w = c.in-Pivot.choice in
    let e : next_at t ≡ nexts.Pivot w = sym c.in-Pivot.ensures in
    let keeps : SFits w32 c.args.view.common = search rules in
    let told : c.pivot.result ≡ pivoted_by (fits_by t w) (common_moved t w) =
    simp (to_z-of_z keeps) at c.pivot.ensures.answer in
    let put : PutBy (fits_by t w) (live t.rows t.columns) (entries_moved t w) c.pivot.new.next =
    simp (to_z-of_z keeps) at c.pivot.ensures.numbers in
    let z = c.in-Some.common in
    let f = common-told (fits_by t w) (common_moved t w) z (sym told ∙ c.in-Some.is) in
    let m = c.requires.steppable.movable w e in
    let fit : SFits w32 z = subst (SFits w32) f.1 (fits-by (fits-common m.pivotable f.0) tt) in record {
      answer = ap₂ (λ v z. outcomes.Goes w.row w.column v z) c.violated_limit-value.ensures
          (to_z-of_z fit ∙ sym f.1) ∙ answer-is t w e true f.0;
      numbers = put_is t w e c.pivot.new.next put;
    }

pub returns-in-None : goal.returns-in-None
returns-in-None c =
    let t = seen c.args.entries.now c.args.view c.args.limits in
    let w = c.in-Pivot.choice in
    let e : next_at t ≡ nexts.Pivot w = sym c.in-Pivot.ensures in
    let keeps : SFits w32 c.args.view.common = search rules in
    let told : c.pivot.result ≡ pivoted_by (fits_by t w) (common_moved t w) =
    simp (to_z-of_z keeps) at c.pivot.ensures.answer in
    let put : PutBy (fits_by t w) (live t.rows t.columns) (entries_moved t w) c.pivot.new.next =
    simp (to_z-of_z keeps) at c.pivot.ensures.numbers in
    let f = beyond-told (fits_by t w) (common_moved t w) (sym told ∙ c.in-None.is) in record {
      answer = answer-is t w e false f;
      numbers = put_is t w e c.pivot.new.next put;
    }
