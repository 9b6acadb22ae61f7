-- The two halves of an answer by place are those of the state: numerators, multipliers, zeros, and 1 at a variable.
--   zeros-are, units-are                        of plain arrays
--   numerators-are, smalls-are, lowers-are, uppers-are    of a tableau that stands for a state
use mathlib.Core.Bool.{Bool, cond}
use mathlib.Core.List.{List, ◌∷◌}
use mathlib.Core.Logic.{◌≢◌}
use mathlib.Core.Option.{Option, none, some, none-ne-some}
use mathlib.Core.Path.{◌≡◌, ap, ap₂, refl, sym, ◌∙◌}
use Prim.Native.Nat.{ℕ, zero, suc, ◌+◌, ◌<◌}
use native.Mathlib.Decide.{ℕ_discrete}
use borrow.Author.Tests.{eq-eqb, ne_eqb}
use lib.Dec.{eqb}
use lib.IntN.{ℤ, neg_ℤ, pos, ◌*ℤ◌}
use lib.ListN.{get_or, length-replicate, replicate, set}
use lib.Seq.{get_or-set_other, get_or-set_same}
use Rattle.whole.specs.Tables.{table, table_from}
use Rattle.whole.specs.Values.{pairs}
use Rattle.whole.proofs.Values.Beside.{pairs-laws}
use Rattle.whole.proofs.Lists.Tables.{filled_in, replicate-at, table_same}
use Rattle.rules.specs.Problem.{Problem, vars}
use Rattle.rules.specs.Sizes.{most_variables}
use Rattle.rules.specs.Step.{Leaving, Side, State, above, below, positive, pull, same, scaled, seat}
use Rattle.rules.specs.Tableau.{entry, relation}
use Rattle.rules.specs.Facts.Rule.{Left}
use Rattle.rules.proofs.Tableau.Relation.{relation-off, relation-own}
use Rattle.rules.specs.Facts.State.{Rowed}
use Rattle.rules.proofs.Run.State.{seated-scaled}
use Rattle.tableau.specs.declared.Tableau.{Tableau}
use Rattle.tableau.specs.Parts.{basic_at, cell_at, column_of, plain_at, row_of, seat_at, small_at, value_at}
use Rattle.tableau.specs.Stands.{HasRow, Stands}
use Rattle.sides.specs.Sides.{rising, side_by}
use Rattle.search.specs.Search.{blocked_at, scaled_at}
use Rattle.search.proofs.Laws.Rows.{row_is}
use Rattle.search.proofs.Laws.Stands.{all-vars}
use Rattle.answers.specs.Answer.{first_of, numerator_at, numerator_from, numerator_laid, numerators_at, numerators_laid}
use Rattle.answers.specs.Multipliers.{multipliers_at, multipliers_laid, pull_at, pull_laid, relation_from, unit_at}

-- ---- plain arrays

constant : (a : ℤ) (i N : ℕ) → table_from i N (λ v. a) ≡ replicate N a
unfolding table_from
constant a i zero = refl
constant a i (suc N) = ap (λ l. a ∷ l) (constant a (suc i) N)

pub zeros-are : (N : ℕ) → first_of N (replicate most_variables (pos 0)) ≡ replicate N (pos 0)
zeros-are N = table_same N _ (λ v. pos 0) (λ v h. replicate-at most_variables (pos 0) v) ∙ constant (pos 0) 0 N

pub units-are : (N v : ℕ) → v < most_variables → first_of N (unit_at v) ≡ table N (same v)
unfolding unit_at
units-are N v h = table_same N _ (same v) (λ w k. at w (ℕ_discrete w v))
  where
    at : (w : ℕ) → Dec (w ≡ v) → get_or (set (replicate most_variables (pos 0)) v (pos 1)) w (pos 0) ≡ same v w
    at w (yes e) = rw (
      e,
      get_or-set_same (replicate most_variables (pos 0)) v (pos 1) (pos 0)
          (rw (length-replicate most_variables (pos 0)) h),
    ) (ap (λ b. cond b (pos 1) (pos 0)) (sym (eq-eqb v v refl)))
    at w (no n) = get_or-set_other (replicate most_variables (pos 0)) v w (pos 1) (pos 0) n
        ∙ replicate-at most_variables (pos 0) w
        ∙ ap (λ b. cond b (pos 1) (pos 0)) (sym (ne_eqb v w (λ e. n (sym e))))

-- ---- of a tableau that stands for a state

module _ {P : Problem (ℤ × ℤ)} {t : Tableau} {s : State (ℤ × ℤ)} (St : Stands P t s) (R : Rowed pairs P s) where
  in-places : (v : ℕ) → v < vars P → v < t.rows + t.columns
  in-places v h = rw (all-vars P t s St R) h

  -- by the seat: both parts of the sum of the row, or of D times the value of the column
  abbrev parts-by : ℕ → Bool → ℤ × ℤ
  parts-by v b = (
    numerator_from b (scaled_at t v).0 (t.common *ℤ plain_at t (column_of t v)),
    numerator_from b (scaled_at t v).1 (t.common *ℤ small_at t (column_of t v)),
  )

  numerator-is : (v : ℕ) → v < vars P → (numerator_at t t.values v, numerator_at t t.smalls v) ≡ scaled pairs P s v
  unfolding numerator_laid
  numerator-is v h = go (seat s v) refl
    where
      go : (o : Option (ℤ × ℤ)) → seat s v ≡ o → parts-by v (seat_at t v).basic ≡ scaled pairs P s v
      go none e = ap (parts-by v) (St.placed.has-row v h e).flag ∙ row_is P t s St R v h e
      go (some x) e = let a = St.placed.has-column v x h e in
          let y : some (value_at t (column_of t v)) ≡ some x =
          sym (St.placed.in-column (column_of t v) a.in-columns).is-seated ∙ ap (seat s) a.holds ∙ e in
          let z : value_at t (column_of t v) ≡ x = cc in
          ap (parts-by v) a.flag
          ∙ ap₂ (λ d u. pairs.scale d u) St.numbers.common-is z
          ∙ sym (seated-scaled pairs pairs-laws P s R v x h e)

  -- one part of every variable, from the list of that part
  part-are : (x : List ℤ) (part : ℤ × ℤ → ℤ) → ((v : ℕ) → v < vars P → numerator_at t x v ≡ part (scaled pairs P s v)) →
      first_of (vars P) (numerators_at t x) ≡ table (vars P) (λ v. part (scaled pairs P s v))
  unfolding numerators_laid
  part-are x part each = table_same (vars P) _ (λ v. part (scaled pairs P s v))
      (λ v h. filled_in most_variables (pos 0) (t.rows + t.columns) (numerator_at t x) v (in-places v h) ∙ each v h)

  pub numerators-are : first_of (vars P) (numerators_at t t.values) ≡ table (vars P) (λ v. (scaled pairs P s v).0)
  numerators-are = part-are t.values (λ y. y.0) (λ v h. ap (λ (y : ℤ × ℤ). y.0) (numerator-is v h))

  pub smalls-are : first_of (vars P) (numerators_at t t.smalls) ≡ table (vars P) (λ v. (scaled pairs P s v).1)
  smalls-are = part-are t.smalls (λ y. y.1) (λ v h. ap (λ (y : ℤ × ℤ). y.1) (numerator-is v h))

  module _ (r : Leaving (ℤ × ℤ)) (L : Left pairs P s r) where
    side-back : (σ : Side) → side_by (rising σ) ≡ σ
    side-back below = refl
    side-back above = refl

    abbrev own : ℕ
    own = r.variable

    abbrev test : ℕ → Bool
    test v = eqb (row_of t v) (row_of t own)

    relation-is : (v : ℕ) → v < vars P →
        relation_from (seat_at t v).basic (test v) t.common (cell_at t (row_of t own) (column_of t v))
        ≡ relation s.tableau own v
    relation-is v h = go (seat s v) refl (ℕ_discrete v own)
      where
        a : HasRow P t own
        a = St.placed.has-row own L.variable L.was-basic

        go : (o : Option (ℤ × ℤ)) → seat s v ≡ o → Dec (v ≡ own) →
            relation_from (seat_at t v).basic (test v) t.common (cell_at t (row_of t own) (column_of t v))
            ≡ relation s.tableau own v
        go none e (yes z) = let f = St.placed.has-row v h e in
            ap₂ (λ b c. relation_from b c t.common (cell_at t (row_of t own) (column_of t v))) f.flag
            (eq-eqb _ _ (ap (row_of t) z))
            ∙ ap neg_ℤ St.numbers.common-is ∙ sym (ap (relation s.tableau own) z ∙ relation-own s.tableau own)
        go none e (no n) = let f = St.placed.has-row v h e in
            ap₂ (λ b c. relation_from b c t.common (cell_at t (row_of t own) (column_of t v))) f.flag
            (ne_eqb _ _ (λ z. n (sym f.holds ∙ ap (basic_at t) z ∙ a.holds)))
            ∙ sym (relation-off s.tableau own v n ∙ R.basic-zero own v L.variable h e)
        go (some x) e d = let f = St.placed.has-column v x h e in
            let n : v ≢ own = λ z. none-ne-some x (sym L.was-basic ∙ ap (seat s) (sym z) ∙ e) in
            ap (λ b. relation_from b (test v) t.common (cell_at t (row_of t own) (column_of t v))) f.flag
            ∙ St.numbers.cell-is (row_of t own) (column_of t v) a.in_rows f.in-columns
            ∙ ap₂ (entry s.tableau) a.holds f.holds
            ∙ sym (relation-off s.tableau own v n)

    pull-is : (v : ℕ) → v < vars P → pull_at t (blocked_at t r) v ≡ pull r.side (relation s.tableau own v)
    unfolding pull_laid
    pull-is v h = ap₂ pull (side-back r.side) (relation-is v h)

    pub lowers-are : first_of (vars P) (multipliers_at t (blocked_at t r)).lower
        ≡ table (vars P) (λ v. positive (neg_ℤ (pull r.side (relation s.tableau own v))))
    unfolding multipliers_laid
    lowers-are = table_same (vars P) _ _
        (λ v h. filled_in most_variables (pos 0) (t.rows + t.columns)
        (λ v. positive (neg_ℤ (pull_at t (blocked_at t r) v))) v
        (in-places v h)
        ∙ ap (λ y. positive (neg_ℤ y)) (pull-is v h))

    pub uppers-are : first_of (vars P) (multipliers_at t (blocked_at t r)).upper
        ≡ table (vars P) (λ v. positive (pull r.side (relation s.tableau own v)))
    unfolding multipliers_laid
    uppers-are = table_same (vars P) _ _
        (λ v h. filled_in most_variables (pos 0) (t.rows + t.columns) (λ v. positive (pull_at t (blocked_at t r) v)) v
        (in-places v h)
        ∙ ap (λ y. positive y) (pull-is v h))
