-- One step by place is the step of the state.
--   StepIs, step_is     the four cases, each with the step of the state
--   search-held, steppable-held                 what a step needs of its calls
--   places-held, common-held, value-held, small-held    .. and the exchange after it
--   live-held, kept-held                        the entries that are kept are those after the pivot
use mathlib.Core.Bool.{Bool, true, false}
use mathlib.Core.List.{List, []}
use mathlib.Core.Option.{some}
use mathlib.Core.Path.{◌≡◌, ap, subst, sym, ◌∙◌}
use Prim.Native.Nat.{ℕ, ◌≤◌}
use lib.IntN.{ℤ}
use mir.Syntax.{w32}
use mir.Val.{SFits}
use Rattle.whole.specs.Numbers.{Within}
use Rattle.whole.specs.Values.{pairs}
use Rattle.whole.proofs.Bools.{zero_one}
use Rattle.whole.proofs.Numbers.Sizes.{fits-by}
use Rattle.rules.specs.Problem.{Problem, vars}
use Rattle.rules.specs.Sizes.{largest_limit}
use Rattle.rules.specs.Step.{Leaving, State, can, entering, evidence, goes, leaving, moved, range, step}
use Rattle.rules.specs.Tableau.{relation}
use Rattle.rules.proofs.Step.Cases.{Stepped, is-can, is-cannot, is-goes, is-range, stepped}
use Rattle.rules.specs.Facts.State.{Rowed}
use Rattle.layout.specs.declared.ColumnPlace.{ColumnPlace}
use Rattle.layout.specs.declared.RowPlace.{RowPlace}
use Rattle.layout.specs.Layout.{live, most_entries}
use Rattle.layout.proofs.Laws.Layout.{live-most}
use Rattle.amounts.specs.declared.Given.{Given}
use Rattle.amounts.specs.declared.Value.{Value}
use Rattle.tableau.specs.declared.Tableau.{Tableau}
use Rattle.tableau.specs.Parts.{basic_at, lower_given, upper_given}
use Rattle.tableau.specs.Pivot.{Swappable}
use Rattle.tableau.specs.Stands.{Ranged, Stands}
use Rattle.pivot.specs.Pivot.{StartsWith, kept_cells}
use Rattle.pivot.proofs.Laws.Wide.Reductions.{fits-common, kept-all}
use Rattle.rules.proofs.Refusal.Accepted.{inset-within, outset-within}
use Rattle.search.specs.declared.Choice.{Choice}
use Rattle.search.specs.declared.Next.TheVariants as nexts
use Rattle.search.specs.Search.{Searchable, blocked_at, choice_at, next_at}
use Rattle.search.proofs.Laws.Rows.{searchable}
use Rattle.search.proofs.Laws.Seen.{searchable-as}
use Rattle.search.proofs.Laws.Stands.{next-blocked, next-chosen, next-none}
use Rattle.steps.specs.declared.End.TheVariants as ends
use Rattle.steps.specs.Step.{Held, Movable, Steppable, admit_at, ended_as, entries_moved, fits_by, moved_at, on}
use Rattle.steps.specs.Step.{stepped_at, violated_pair}
use Rattle.steps.proofs.Laws.Pivot.{exchangeable, fitting-is, movable, ranged-moved, stands-moved}
use Rattle.steps.proofs.Laws.Cases.{Chosen, next-read, read_of, stepped-none, stepped-pivot, stepped-stuck}

-- the four cases: what the step by place comes to, and the step of the state
pub data StepIs (P : Problem (ℤ × ℤ)) (t : Tableau) (s : State (ℤ × ℤ)) : Type 0 where
  ends-can : stepped_at t ≡ ended_as t ends.Can → step pairs P s ≡ can → StepIs P t s
  ends-cannot : (r : Leaving (ℤ × ℤ)) → stepped_at t ≡ ended_as t (ends.Cannot (blocked_at t r)) →
      leaving pairs P s ≡ some r →
      step pairs P s ≡ evidence (vars P) r.side (relation s.tableau r.variable) → StepIs P t s
  ends-range : stepped_at t ≡ ended_as t ends.Range → step pairs P s ≡ range → StepIs P t s
  goes_to : (u : Tableau) (x : State (ℤ × ℤ)) → stepped_at t ≡ record { course = on; tableau = u } →
      step pairs P s ≡ goes x → Stands P u x → Ranged u → StepIs P t s

module _ {P : Problem (ℤ × ℤ)} {t : Tableau} {s : State (ℤ × ℤ)} (St : Stands P t s) (R : Rowed pairs P s)
    (G : Ranged t) where
  chosen_is : (r : Leaving (ℤ × ℤ)) (w : ℕ) → leaving pairs P s ≡ some r → entering pairs P s r ≡ some w →
      stepped_at t ≡ admit_at (fits_by t (choice_at t r w)) t (moved_at t (choice_at t r w))
  chosen_is r w q y = stepped-pivot t (choice_at t r w) (next-chosen P t s St R r q w y)

  pub step_is : StepIs P t s
  step_is = go (stepped pairs P s)
    where
      go : Stepped pairs P s → StepIs P t s
      go (is-can q z) = ends-can (stepped-none t (next-none P t s St R q)) z
      go (is-cannot r q y z) = ends-cannot r (stepped-stuck t (blocked_at t r) (next-blocked P t s St R r q y)) q z
      go (is-range r w q y f z) = ends-range
          (chosen_is r w q y ∙ ap (λ b. admit_at b t (moved_at t (choice_at t r w))) (fitting-is St R r w q y ∙ f)) z
      go (is-goes r w q y f z) = let h = fitting-is St R r w q y ∙ f in
          goes_to (moved_at t (choice_at t r w)) (moved pairs P s r w)
          (chosen_is r w q y ∙ ap (λ b. admit_at b t (moved_at t (choice_at t r w))) h) z
          (stands-moved St R r w q y) (ranged-moved St R r w q y G h)

  -- a pivot that the search chooses may be made, and its variables may change places
  abbrev Both : Choice → Type 0
  Both c = Movable t c × Swappable t c.row.0 c.column.0

  move-ready : (c : Choice) → next_at t ≡ nexts.Pivot c → Both c
  move-ready c e = go (stepped pairs P s)
    where
      of : (r : Leaving (ℤ × ℤ)) (w : ℕ) → leaving pairs P s ≡ some r → entering pairs P s r ≡ some w → Both c
      of r w q y = let n = next-chosen P t s St R r q w y in let k : choice_at t r w ≡ c = cc in
          subst Both k (movable St R r w q y G.cells, exchangeable St R r w q y)

      go : Stepped pairs P s → Both c
      go (is-can q z) = let n = next-none P t s St R q in let k : ◌≡◌ {A = ℕ} 0 1 = cc in zero_one k
      go (is-cannot r q y z) = let n = next-blocked P t s St R r q y in let k : ◌≡◌ {A = ℕ} 0 1 = cc in zero_one k
      go (is-range r w q y f z) = of r w q y
      go (is-goes r w q y f z) = of r w q y

-- ---- what the calls of a step need, and the exchange after it

limit-fits : (b : Bool) (l u : Given) → Within l.plain largest_limit → Within u.plain largest_limit →
    SFits w32 (violated_pair b l u).0
limit-fits true l u h k = fits-by h tt
limit-fits false l u h k = fits-by k tt

inset-fits : (b : Bool) (l u : Given) → SFits w32 (violated_pair b l u).1
inset-fits true l u = fits-by (inset-within l.strict) tt
inset-fits false l u = fits-by (outset-within u.strict) tt

module _ {t : Tableau} (H : Held t) where
  pub search-held : Searchable t
  search-held = searchable H.problem t H.state H.stands H.ranged

  ready : (c : Choice) → next_at t ≡ nexts.Pivot c → Both H.stands H.rowed H.ranged c
  ready c e = move-ready H.stands H.rowed H.ranged c e

  pub steppable-held : Steppable (read_of t)
  steppable-held = record {
    searchable = searchable-as t t.basic [] search-held;
    movable = λ c e. let m = (ready c (sym (next-read t) ∙ e)).0 in
        record { pivotable = m.pivotable; row-place = m.row-place; leaving-seat = m.leaving-seat };
  }

  pub live-held : live t.rows t.columns ≤ most_entries
  live-held = live-most t.rows t.columns search-held.few-rows search-held.few-columns

  module _ {row : RowPlace} {column : ColumnPlace} {value : Value} {common : ℤ}
      (K : Chosen t row column value common (next_at t)) where
    pub kept-held : (next : List ℤ) → StartsWith (live t.rows t.columns) (entries_moved t K.choice) next →
        kept_cells (live t.rows t.columns) next t.entries ≡ entries_moved t K.choice
    kept-held next b = let Z = H.stands.sized in
        kept-all (live t.rows t.columns) _ next t.entries b Z.entries-long
        (λ i h. H.stands.numbers.unused i (rw (← Z.rows_is, ← Z.columns-is) h))

    pub places-held : Swappable t row.0 column.0
    places-held = rw (← K.row_is, ← K.column-is) (ready K.choice K.next-is).1

    pub common-held : SFits w32 common
    common-held = subst (SFits w32) K.common-is
        (fits-by (fits-common (ready K.choice K.next-is).0.pivotable K.in-range) tt)

    pub value-held : SFits w32 value.plain
    value-held = let v = basic_at t K.choice.row.0 in subst (λ x. SFits w32 x.0) K.value-is
        (limit-fits K.choice.rises (lower_given t.limits v) (upper_given t.limits v)
        (search-held.lowers-within v) (search-held.uppers-within v))

    pub small-held : SFits w32 value.small
    small-held = let v = basic_at t K.choice.row.0 in subst (λ x. SFits w32 x.1) K.value-is
        (inset-fits K.choice.rises (lower_given t.limits v) (upper_given t.limits v))
