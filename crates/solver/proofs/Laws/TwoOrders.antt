-- The layout changes no answer, no count and no verdict. t holds its entries in the order in use, by columns; s holds
-- the same in any order, as by rows.
--   step_same       a step of the same tableau comes to the same: it goes on to the same, or ends in the same way
--   same-run        so at every step of the run the two tableaux are the same
--   same-finish, finish-back    where one run ends the other does, in the same way after as many pivots
--   same_answer     .. with the same words, verdict and count included
--   same-steps, same-words      the same from the start of accepted words; the words are the answer of the rules
--   rows-and-columns            all of it, said of rows and columns
use mathlib.Core.Bool.{Bool, true, false}
use mathlib.Core.List.{List}
use mathlib.Core.Option.{none}
use mathlib.Core.Path.{◌≡◌, ap, ap₂, refl, subst, sym, ◌∙◌}
use Prim.Native.Nat.{ℕ, zero, suc, ◌+◌, ◌<◌}
use native.Mathlib.Decide.{ℕ_discrete}
use native.Mathlib.Omega.{arith}
use lib.Dec.{eqb}
use lib.IntN.{ℤ, neg_ℤ, pos, ◌*ℤ◌}
use lib.ListN.{get_or}
use Rattle.whole.specs.Values.{pairs}
use Rattle.whole.proofs.Lists.Prefix.{filled-same}
use Rattle.rules.specs.Answer.{answer_from}
use Rattle.rules.specs.Problem.{inner, problem, vars_of}
use Rattle.rules.specs.Refusal.{problem_refusal}
use Rattle.rules.specs.Run.{conflict}
use Rattle.rules.specs.Sizes.{most_variables}
use Rattle.rules.specs.Step.{positive, pull, start}
use Rattle.tableau.specs.declared.Tableau.{Tableau}
use Rattle.layout.specs.Layout.{Order, by_columns, by_rows, in_use, entry_laid}
use Rattle.pivot.specs.TwoOrders.{SameCells}
use Rattle.tableau.specs.TwoOrders.{SameTableau}
use Rattle.tableau.specs.Parts.{column_of, row_of, seat_at}
use Rattle.pivot.specs.Pivot.{entries_laid}
use Rattle.tableau.specs.Pivot.{pivoted_laid, swapped_at, with_numbers}
use Rattle.tableau.specs.Start.{start_laid, start_tableau}
use Rattle.pivot.proofs.Laws.TwoOrders.{same-pivot}
use Rattle.tableau.proofs.Laws.TwoOrders.{same_start}
use Rattle.sides.specs.Sides.{side_by}
use Rattle.search.specs.declared.Blocked.{Blocked}
use Rattle.search.specs.declared.Choice.{Choice}
use Rattle.search.specs.declared.Next.{Next}
use Rattle.search.specs.declared.Next.TheVariants as nexts
use Rattle.search.specs.Search.{Searchable, next_laid, row_sum_laid}
use Rattle.search.proofs.Laws.TwoOrders.{next-same, pivot-places, row_same}
use Rattle.answers.specs.declared.Verdict.TheVariants as verdicts
use Rattle.answers.specs.declared.multipliers.Multipliers.{Multipliers}
use Rattle.answers.specs.Answer.{numerator_from, numerator_laid, numerators_laid, words_at}
use Rattle.answers.specs.Multipliers.{multipliers_laid, pull_in_laid, pull_laid, relation_from}
use Rattle.steps.specs.declared.End.{End}
use Rattle.steps.specs.declared.End.TheVariants as ends
use Rattle.steps.specs.Step.{admit_at, fits_by_laid, moved_laid, on, step_laid, stepped_at, stepped_laid, value_after}
use Rattle.steps.proofs.Laws.Stands.{search-held}
use Rattle.solver.specs.TwoOrders.{RowsAndColumns, SameAfter, SameStep}
use Rattle.solver.specs.Run.{Begun, Finished, FinishedLaid, GoesOn, GoesOnLaid, Startable}
use Rattle.solver.specs.Run.{after_at, after_laid, end_words, words_laid}
use Rattle.solver.proofs.Laws.Refusals.{begun-start, start-many}
use Rattle.solver.proofs.Laws.Stands.Run.{held_after, held-begun}
use Rattle.solver.proofs.Laws.Stands.Told.{ended-tellable, last-many, told-answer}

-- ---- one step

module _ {o u : Order} {t : Tableau} {l : List ℤ} (C : SameCells o u t.rows t.columns t.entries l)
    (S : Searchable t) where
  -- the tableau with the other array
  abbrev other : Tableau
  other = with_numbers t t.common l

  as_it_was : SameTableau o u t other
  as_it_was = record { same_rest = refl; same-cells = C }

  moved_same : (c : Choice) → c.row.0 < t.rows → c.column.0 < t.columns →
      SameTableau o u (moved_laid o t c) (moved_laid u other c)
  unfolding moved_laid pivoted_laid swapped_at
  moved_same c h k = let P = same-pivot C t.common c.row.0 c.column.0 h k in record {
    same_rest = ap (λ d. swapped_at
        (with_numbers t d (entries_laid u t.rows t.columns l t.common c.row.0 c.column.0))
        c.row.0 c.column.0 (value_after t c)) (sym P.same-common);
    same-cells = P.same_entries;
  }

  step-here : SameStep o u (stepped_laid o t) (stepped_laid u other)
  unfolding stepped_laid step_laid
  step-here = subst (λ x. SameStep o u (step_laid o t (next_laid o t)) (step_laid u other x)) (next-same C S)
      (go (next_laid o t) refl)
    where
      by : (c : Choice) → c.row.0 < t.rows → c.column.0 < t.columns → (b : Bool) →
          SameStep o u (admit_at b t (moved_laid o t c)) (admit_at b other (moved_laid u other c))
      by c h k true = record { same-course = refl; same-tableau = moved_same c h k }
      by c h k false = record { same-course = refl; same-tableau = as_it_was }

      go : (x : Next) → next_laid o t ≡ x → SameStep o u (step_laid o t x) (step_laid u other x)
      go nexts.Within e = record { same-course = refl; same-tableau = as_it_was }
      go (nexts.Stuck b) e = record { same-course = refl; same-tableau = as_it_was }
      go (nexts.Pivot c) e = let q = pivot-places o S c e in
          subst
          (λ b. SameStep o u (admit_at (fits_by_laid o t c) t (moved_laid o t c))
          (admit_at b other (moved_laid u other c)))
          (same-pivot C t.common c.row.0 c.column.0 q.0 q.1).same-range
          (by c q.0 q.1 (fits_by_laid o t c))

  -- ---- the words

  numerators-same : (x : List ℤ) → numerators_laid o t.entries x t.seats t.common t.rows t.columns
      ≡ numerators_laid u l x t.seats t.common t.rows t.columns
  unfolding numerators_laid numerator_laid
  numerators-same x = filled-same most_variables (pos 0) _ (t.rows + t.columns) _
      (λ v h. go v h (seat_at t v).basic refl)
    where
      go : (v : ℕ) → v < t.rows + t.columns → (b : Bool) → (seat_at t v).basic ≡ b →
          numerator_from b (row_sum_laid o t.rows t.columns t.entries x (row_of t v))
          (t.common *ℤ get_or x (column_of t v) (pos 0))
          ≡ numerator_from b (row_sum_laid u t.rows t.columns l x (row_of t v))
          (t.common *ℤ get_or x (column_of t v) (pos 0))
      go v h true e = row_same C S x (row_of t v) (S.row-seats v h e)
      go v h false e = refl

  module _ (b : Blocked) (h : b.row.0 < t.rows) where
    pull-same : (v : ℕ) → v < t.rows + t.columns →
        pull_in_laid o t.entries t.seats t.rows t.columns t.common b v
        ≡ pull_in_laid u l t.seats t.rows t.columns t.common b v
    unfolding pull_laid
    pull-same v k = ap (pull (side_by b.rises)) (go (seat_at t v).basic (eqb (row_of t v) b.row.0) refl)
      where
        go : (basic own : Bool) → (seat_at t v).basic ≡ basic →
            relation_from basic own t.common
            (entry_laid o t.rows t.columns t.entries b.row.0 (column_of t v))
            ≡ relation_from basic own t.common (entry_laid u t.rows t.columns l b.row.0 (column_of t v))
        go true true e = refl
        go true false e = refl
        go false own e = C.same-cell b.row.0 (column_of t v) h (S.column-seats v k e)

    multipliers-same : multipliers_laid o t.entries t.seats t.common t.rows t.columns b
        ≡ multipliers_laid u l t.seats t.common t.rows t.columns b
    unfolding multipliers_laid
    multipliers-same = ap₂ (λ x y. record { lower = x; upper = y })
        (filled-same most_variables (pos 0) _ (t.rows + t.columns) _
        (λ v k. ap (λ z. positive (neg_ℤ z)) (pull-same v k)))
        (filled-same most_variables (pos 0) _ (t.rows + t.columns) _ (λ v k. ap (λ z. positive z) (pull-same v k)))

  words-here : (e : End) → ((b : Blocked) → e ≡ ends.Cannot b → b.row.0 < t.rows) → (k N : ℕ) →
      words_laid o e k t N ≡ words_laid u e k other N
  unfolding words_laid
  words-here ends.Can h k N = ap₂ (λ x y. words_at verdicts.Can k t.common N x y)
      (numerators-same t.values) (numerators-same t.smalls)
  words-here (ends.Cannot b) h k N = ap (λ (M : Multipliers). words_at verdicts.Cannot k (pos 0) N M.lower M.upper)
      (multipliers-same b (h b refl))
  words-here ends.Range h k N = refl

module _ {o u : Order} {t s : Tableau} (Q : SameTableau o u t s) (S : Searchable t) where
  pub step_same : SameStep o u (stepped_laid o t) (stepped_laid u s)
  step_same = subst (λ x. SameStep o u (stepped_laid o t) (stepped_laid u x)) (sym Q.same_rest)
      (step-here Q.same-cells S)

  words_same : (e : End) → ((b : Blocked) → e ≡ ends.Cannot b → b.row.0 < t.rows) → (k N : ℕ) →
      words_laid o e k t N ≡ words_laid u e k s N
  words_same e h k N = words-here Q.same-cells S e h k N ∙ ap (λ x. words_laid u e k x N) (sym Q.same_rest)

-- ---- the run

module _ {o : Order} {t s : Tableau} (B : Begun t) (Q : SameTableau in_use o t s) where
  pub same-run : (k : ℕ) → GoesOn t k → SameAfter in_use o t s k
  unfolding after_laid
  same-run zero g = record { here = Q; next = step_same Q (search-held (held_after (held-begun B) zero g)) }
  same-run (suc k) g =
      let h = (same-run k (λ i l. g i (omega arith))).next.same-tableau in
      record { here = h; next = step_same h (search-held (held_after (held-begun B) (suc k) g)) }

  goes_same : (k : ℕ) → GoesOn t k → GoesOnLaid o s k
  goes_same k g i h = sym (same-run i (λ j l. g j (omega arith))).next.same-course ∙ g i h

  goes_back : (k : ℕ) → GoesOnLaid o s k → GoesOn t k
  goes_back zero g i h = let z : ⊥ = omega arith in absurd z
  goes_back (suc k) g i h = one (goes_back k (λ j l. g j (omega arith))) (ℕ_discrete i k)
    where
      one : GoesOn t k → Dec (i ≡ k) → (stepped_at (after_at t i)).course ≡ on
      one rest (yes e) = rw e ((same-run k rest).next.same-course ∙ g k (omega arith))
      one rest (no n) = rest i (omega arith)

  module _ {e : End} {k : ℕ} {w : Tableau} where
    pub same-finish : Finished t e k w → FinishedLaid o s e k (after_laid o s k)
    same-finish F = record {
      goes_on = goes_same k F.goes_on;
      ended = sym (same-run k F.goes_on).next.same-course ∙ F.ended;
      last = refl;
    }

    pub finish-back : FinishedLaid o s e k w → Finished t e k (after_at t k)
    finish-back F = let g = goes_back k F.goes_on in
        record { goes_on = g; ended = (same-run k g).next.same-course ∙ F.ended; last = refl }

-- ---- the answer

module _ {o : Order} {t s : Tableau} (T : Startable t) (Q : SameTableau in_use o t s)
    {e : End} {k : ℕ} {w : Tableau} (F : FinishedLaid o s e k w) where
  abbrev finished : Finished t e k (after_at t k)
  finished = finish-back T.begun Q F

  -- the words of the two runs: verdict, count, and all the others
  pub same_answer : (N : ℕ) → words_laid o e k w N ≡ end_words e k (after_at t k) N
  same_answer N = let h = ended-tellable T finished in
      ap (λ x. words_laid o e k x N) F.last
      ∙ sym (words_same (same-run T.begun Q k finished.goes_on).here h.searchable e h.row_in k N)

  answer-is : words_laid o e k w (t.rows + t.columns) ≡ answer_from T.begun.problem T.begun.state
  answer-is = same_answer (t.rows + t.columns)
      ∙ ap (end_words e k (after_at t k)) (sym (last-many T finished)) ∙ told-answer T finished

-- ---- from the start of accepted words

module _ (o : Order) (ws : List ℤ) (f : problem_refusal ws ≡ 0) where
  abbrev first : Tableau
  first = start_tableau (problem ws)

  abbrev begun : Begun first
  begun = begun-start ws first refl f

  same-steps : (k : ℕ) → GoesOn first k → SameAfter in_use o first (start_laid o (problem ws)) k
  same-steps = same-run begun (same_start in_use o (problem ws))

  pub same-words : conflict pairs (inner (problem ws)) ≡ none →
      {e : End} {k : ℕ} {w : Tableau} → FinishedLaid o (start_laid o (problem ws)) e k w →
      words_laid o e k w (vars_of ws) ≡ answer_from (inner (problem ws)) (start pairs (inner (problem ws)))
  same-words c {e} {k} {w} F = ap (words_laid o e k w) (sym (start-many ws first refl f))
      ∙ answer-is (record { begun = begun; uncrossed = c }) (same_start in_use o (problem ws)) F

-- all of it, said of rows and columns
pub rows-and-columns : (ws : List ℤ) → problem_refusal ws ≡ 0 → RowsAndColumns ws
rows-and-columns ws f = let Q = same_start by_columns by_rows (problem ws) in record {
  each_step = same-steps by_rows ws f;
  rows_end = λ e k t F. same-finish (begun by_rows ws f) Q F;
  columns-end = λ e k s F. finish-back (begun by_rows ws f) Q F;
  words-told = λ c e k t s F G. same-words by_columns ws f c F ∙ sym (same-words by_rows ws f c G);
}
