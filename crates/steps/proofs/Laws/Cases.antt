-- The step by place, by what its calls return.
--   stepped-none, stepped-stuck, stepped-pivot     by the answer of the search
--   read_of, next-read                              what a step reads of a tableau, and that the search finds the same
-- there   outcome-ended                                  the step by the code's answer, where that is an end
--   Chosen, outcome-goes, course-on, exchanged         .. and where it goes on: the exchange that is left to be done
--   put-chosen                                         .. and the entries that are in the array
use mathlib.Core.Bool.{Bool, true, false}
use mathlib.Core.List.{List, []}
use mathlib.Core.Path.{◌≡◌, ap, refl, subst, sym, ◌∙◌}
use Prim.Native.Nat.{ℕ}
use lib.IntN.{ℤ}
use lib.ListN.{get_or, set}
use Rattle.whole.proofs.Bools.{zero_one}
use Rattle.layout.specs.declared.ColumnPlace.{ColumnPlace}
use Rattle.layout.specs.declared.RowPlace.{RowPlace}
use Rattle.layout.specs.Layout.{live}
use Rattle.amounts.specs.declared.Value.{Value}
use Rattle.amounts.specs.Amounts.{pair_in, value_of}
use Rattle.tableau.specs.declared.Seat.{Seat}
use Rattle.tableau.specs.declared.Tableau.{Tableau}
use Rattle.tableau.specs.Parts.{variable}
use Rattle.pivot.specs.Pivot.{StartsWith, PutBy}
use Rattle.tableau.specs.Pivot.{pivoted_laid, swapped_at, with_numbers}
use Rattle.search.specs.declared.Blocked.{Blocked}
use Rattle.search.specs.declared.Choice.{Choice}
use Rattle.search.specs.declared.Next.{Next}
use Rattle.search.specs.declared.Next.TheVariants as nexts
use Rattle.search.specs.Search.{next_at, seen, view_of}
use Rattle.search.proofs.Laws.Seen.{next-as}
use Rattle.steps.specs.declared.End.{End}
use Rattle.steps.specs.declared.End.TheVariants as ends
use Rattle.steps.specs.declared.Outcome.TheVariants as outcomes
use Rattle.steps.specs.Step.{PutAt, PutWhere, StepAt, admit_at, answer_by, common_moved, ended_as, entries_moved}
use Rattle.steps.specs.Step.{fits_by, moved_at, moved_laid, on}
use Rattle.steps.specs.Step.{outcome_at, outcome_by, step_by, step_laid, stepped_at, stepped_laid, value_after}

module _ (t : Tableau) where
  pub stepped-none : next_at t ≡ nexts.Within → stepped_at t ≡ ended_as t ends.Can
  unfolding stepped_laid step_laid
  stepped-none e = ap (step_by t) e

  pub stepped-stuck : (b : Blocked) → next_at t ≡ nexts.Stuck b → stepped_at t ≡ ended_as t (ends.Cannot b)
  unfolding stepped_laid step_laid
  stepped-stuck b e = ap (step_by t) e

  pub stepped-pivot : (c : Choice) → next_at t ≡ nexts.Pivot c → stepped_at t ≡ admit_at (fits_by t c) t (moved_at t c)
  unfolding stepped_laid step_laid
  stepped-pivot c e = ap (step_by t) e

-- ---- what a step reads

abbrev pub read_of : Tableau → Tableau
read_of t = seen t.entries (view_of t) t.limits

pub next-read : (t : Tableau) → next_at (read_of t) ≡ next_at t
next-read t = next-as t t.basic []

-- ---- the step by the code's answer

-- the exchange at equal arguments
same-exchange : (t : Tableau) (l : List ℤ) {x x' : RowPlace} {y y' : ColumnPlace} {v v' : ℤ × ℤ} {d d' : ℤ} →
    x ≡ x' → y ≡ y' → v ≡ v' → d ≡ d' →
    swapped_at (with_numbers t d l) x.0 y.0 v ≡ swapped_at (with_numbers t d' l) x'.0 y'.0 v'
same-exchange t l a b v d = cc

module _ (t : Tableau) where
  moved-parts : (c : Choice) → moved_at t c ≡ swapped_at
      (with_numbers t (common_moved t c) (entries_moved t c)) c.row.0 c.column.0 (value_after t c)
  unfolding moved_laid pivoted_laid
  moved-parts c = refl

  ended_by : (n : Next) (e : End) → outcome_by (read_of t) n ≡ outcomes.Ended e → step_by t n ≡ ended_as t e
  unfolding outcome_by step_laid
  ended_by nexts.Within e q = let z : ends.Can ≡ e = cc in ap (ended_as t) z
  ended_by (nexts.Stuck b) e q = let z : ends.Cannot b ≡ e = cc in ap (ended_as t) z
  ended_by (nexts.Pivot c) e q = go (fits_by t c) q
    where
      go : (b : Bool) → answer_by b (read_of t) c ≡ outcomes.Ended e → admit_at b t (moved_at t c) ≡ ended_as t e
      go true q = let z : ◌≡◌ {A = ℕ} 0 1 = cc in zero_one z
      go false q = let z : ends.Range ≡ e = cc in ap (ended_as t) z

  pub outcome-ended : (e : End) → outcome_at (read_of t) ≡ outcomes.Ended e → stepped_at t ≡ ended_as t e
  unfolding stepped_laid
  outcome-ended e q = ended_by (next_at t) e (ap (outcome_by (read_of t)) (sym (next-read t)) ∙ q)

  -- the pivot that was chosen, and the step that it is
  module _ (row : RowPlace) (column : ColumnPlace) (value : Value) (common : ℤ) where
    pub record Chosen (n : Next) : Type 0 where
      pub choice : Choice
      pub next-is : n ≡ nexts.Pivot choice
      pub row_is : choice.row ≡ row
      pub column-is : choice.column ≡ column
      pub in-range : fits_by t choice ≡ true
      pub value-is : value_after t choice ≡ pair_in value
      pub common-is : common_moved t choice ≡ common
      pub step_is : step_by t n
          ≡ record {
            course = on;
            tableau = swapped_at (with_numbers t common (entries_moved t choice)) row.0 column.0 (pair_in value);
          }

    goes_by : (n : Next) → outcome_by (read_of t) n ≡ outcomes.Goes row column value common → Chosen n
    unfolding outcome_by step_laid
    goes_by nexts.Within q = let z : ◌≡◌ {A = ℕ} 0 1 = cc in zero_one z
    goes_by (nexts.Stuck b) q = let z : ◌≡◌ {A = ℕ} 0 1 = cc in zero_one z
    goes_by (nexts.Pivot c) q = go (fits_by t c) refl q
      where
        go : (b : Bool) → fits_by t c ≡ b → answer_by b (read_of t) c ≡ outcomes.Goes row column value common →
            Chosen (nexts.Pivot c)
        go false f q = let z : ◌≡◌ {A = ℕ} 0 1 = cc in zero_one z
        go true f q =
            let a : c.row ≡ row = cc in
            let b : c.column ≡ column = cc in
            let x : value_of (value_after t c) ≡ value = cc in
            let v : value_after t c ≡ pair_in value = ap pair_in x in
            let d : common_moved t c ≡ common = cc in
            record {
              choice = c;
              next-is = refl;
              row_is = a;
              column-is = b;
              in-range = f;
              value-is = v;
              common-is = d;
              step_is = made f a b v d;
            }
          where
            made : fits_by t c ≡ true → c.row ≡ row → c.column ≡ column → value_after t c ≡ pair_in value →
                common_moved t c ≡ common →
                step_by t (nexts.Pivot c) ≡ record {
                  course = on;
                  tableau =
                      swapped_at (with_numbers t common (entries_moved t c)) row.0 column.0 (pair_in value);
                }
            made f a b v d = ap (λ x. admit_at x t (moved_at t c)) f
                ∙ ap (λ u. record { course = on; tableau = u })
                (moved-parts c ∙ same-exchange t (entries_moved t c) a b v d)

    pub outcome-goes : outcome_at (read_of t) ≡ outcomes.Goes row column value common → Chosen (next_at t)
    outcome-goes q = goes_by (next_at t) (ap (outcome_by (read_of t)) (sym (next-read t)) ∙ q)

    -- the entries after the pivot are in the array
    pub put-chosen : (K : Chosen (next_at t)) (next : List ℤ) → PutAt (read_of t) next →
        StartsWith (live t.rows t.columns) (entries_moved t K.choice) next
    unfolding PutWhere
    put-chosen K next p =
        subst (λ (b : Bool). PutBy b (live t.rows t.columns) (entries_moved t K.choice) next) K.in-range
        (subst (λ (n : Next). PutWhere (read_of t) n next) (next-read t ∙ K.next-is) p)

    pub course-on : Chosen (next_at t) → (stepped_at t).course ≡ on
    unfolding stepped_laid
    course-on K = ap (λ (s : StepAt). s.course) K.step_is

    -- the tableau after the exchange, as the code leaves it
    pub exchanged : (K : Chosen (next_at t)) {l : List ℤ} {in_row in-column : Seat} → l ≡ entries_moved t K.choice →
        in_row ≡ record { basic = true; row = row; column = column } →
        in-column ≡ record { basic = false; row = row; column = column } →
        let leaves = get_or t.basic row.0 (variable 0) in let enters =
        get_or t.nonbasic column.0 (variable 0) in
        record {
          rows = t.rows;
          columns = t.columns;
          common = common;
          entries = l;
          basic = set t.basic row.0 enters;
          nonbasic = set t.nonbasic column.0 leaves;
          values = set t.values column.0 value.plain;
          smalls = set t.smalls column.0 value.small;
          seats = set (set t.seats enters.0 in_row) leaves.0 in-column;
          limits = t.limits;
        } ≡ (stepped_at t).tableau
    unfolding stepped_laid swapped_at
    exchanged K {l} {in_row} {in-column} e f g =
        rw (e, f, g) (sym (ap (λ (s : StepAt). s.tableau) K.step_is))
