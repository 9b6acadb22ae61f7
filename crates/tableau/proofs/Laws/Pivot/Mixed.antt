-- A mixed entry is the solved tableau's: by variable one formula covers what by place are four kinds of cell.
--   mixed-is    at a row and a column in use
use Prim.Native.Nat.{ℕ, ◌<◌}
use native.Mathlib.Decide.{ℕ_discrete}
use mathlib.Core.Path.{◌≡◌, refl, ap, ap₂, sym, ◌∙◌}
use mathlib.Core.Logic.{◌≢◌}
use mathlib.Core.List.{[], ◌∷◌}
use mathlib.Core.Option.{none-ne-some}
use borrow.Author.Tests.{eq-eqb, ne_eqb}
use lib.Dec.{eqb}
use lib.IntN.{ℤ, pos, neg_ℤ, ◌*ℤ◌, ◌-ℤ◌}
use Rattle.whole.proofs.Ring.Reify.{reify}
use Rattle.whole.proofs.Lists.Tables.{matrix-at}
use Rattle.whole.proofs.Ring.Tools.{ring-at}
use Rattle.rules.specs.Problem.{Problem, vars}
use Rattle.rules.specs.Step.{State, Leaving}
use Rattle.rules.specs.Tableau.{entry, relation, solved}
use Rattle.rules.specs.Tableau as rules
use Rattle.rules.proofs.Tableau.Relation.{relation-own, relation-off}
use Rattle.pivot.specs.Pivot.{mixed_of, mixed_cell, mixed_laid}
use Rattle.tableau.specs.declared.Tableau.{Tableau}
use Rattle.tableau.specs.Parts.{cell_at, basic_at, nonbasic_at, column_of}
use Rattle.tableau.proofs.Laws.Pivot.Places.{Turn, p, q, after_turn, leaving-row, entering-column}
use Rattle.tableau.proofs.Laws.Pivot.Places.{pivot-is, basic-left, basic-stays, nonbasic-entered, nonbasic-stays}

-- ---- over plain numbers: D is common, p the pivot

crossing : (D p : ℤ) → D *ℤ D ≡ p *ℤ pos 0 -ℤ D *ℤ neg_ℤ D
crossing D p = ring-at (D ∷ p ∷ []) (search reify depth 30) refl

in-leaving-row : (D p a : ℤ) → neg_ℤ (D *ℤ a) ≡ p *ℤ pos 0 -ℤ D *ℤ a
in-leaving-row D p a = ring-at (D ∷ p ∷ a ∷ []) (search reify depth 30) refl

in-entering-column : (D p b : ℤ) → b *ℤ D ≡ p *ℤ pos 0 -ℤ b *ℤ neg_ℤ D
in-entering-column D p b = ring-at (D ∷ p ∷ b ∷ []) (search reify depth 30) refl

mixed-cell : (t : Tableau) (p q i j : ℕ) → mixed_cell t.rows t.columns t.common t.entries p q i j
    ≡ mixed_of (eqb i p) (eqb j q) t.common (cell_at t p q) (cell_at t i j) (cell_at t i q) (cell_at t p j)
unfolding mixed_laid
mixed-cell t p q i j = refl

module _ {P : Problem (ℤ × ℤ)} {t : Tableau} {s : State (ℤ × ℤ)} {r : Leaving (ℤ × ℤ)} {w : ℕ}
    (M : Turn P t s r w) where
  abbrev T : rules.Tableau
  T = s.tableau

  abbrev N : ℕ
  N = vars P

  abbrev T1 : rules.Tableau
  T1 = solved N T r.variable w

  -- ---- a row and a column in use

  entry-is : (v u : ℕ) → v < N → u < N →
      entry T1 v u ≡ entry T r.variable w *ℤ entry T v u -ℤ entry T v w *ℤ relation T r.variable u
  unfolding solved
  entry-is v u h k =
      matrix-at N (λ v u. entry T r.variable w *ℤ entry T v u -ℤ entry T v w *ℤ relation T r.variable u) v u h k

  w-elsewhere : (j : ℕ) → j < P.n → j ≢ q M → nonbasic_at t j ≢ w
  w-elsewhere j h n e = n (sym (M.stands.placed.in-column j h).back ∙ ap (column_of t) e)

  seated-not-r : (j : ℕ) → j < P.n → nonbasic_at t j ≢ r.variable
  seated-not-r j h e = none-ne-some _
      (sym M.left.was-basic ∙ (rw e at (M.stands.placed.in-column j h).is-seated))

  own-w : entry T w w ≡ t.common
  own-w = M.rowed.own w M.entered.value M.entered.variable M.entered.was-seated
      ∙ sym M.stands.numbers.common-is

  at-leaving : relation T r.variable r.variable ≡ neg_ℤ t.common
  at-leaving = relation-own T r.variable ∙ ap neg_ℤ (sym M.stands.numbers.common-is)

  basic-zero-r : (v : ℕ) → v < N → entry T v r.variable ≡ pos 0
  basic-zero-r v h = M.rowed.basic-zero v r.variable h M.left.variable M.left.was-basic

  above : (j : ℕ) → j < P.n → cell_at t (p M) j ≡ entry T r.variable (nonbasic_at t j)
  above j k = M.stands.numbers.cell-is (p M) j (leaving-row M).in_rows k
      ∙ ap (λ v. entry T v (nonbasic_at t j)) (leaving-row M).holds

  beside : (i : ℕ) → i < P.m → cell_at t i (q M) ≡ entry T (basic_at t i) w
  beside i h = M.stands.numbers.cell-is i (q M) h (entering-column M).in-columns
      ∙ ap (entry T (basic_at t i)) (entering-column M).holds

  pub mixed-is : (i j : ℕ) → i < P.m → j < P.n →
      mixed_cell t.rows t.columns t.common t.entries (p M) (q M) i j
      ≡ entry T1 (basic_at (after_turn M) i) (nonbasic_at (after_turn M) j)
  mixed-is i j h k = mixed-cell t (p M) (q M) i j ∙ go (ℕ_discrete i (p M)) (ℕ_discrete j (q M))
    where
      v-var : basic_at t i < N
      v-var = (M.stands.placed.in_row i h).variable-in

      u-var : nonbasic_at t j < N
      u-var = (M.stands.placed.in-column j k).variable-in

      go : Dec (i ≡ p M) → Dec (j ≡ q M) →
          mixed_of (eqb i (p M)) (eqb j (q M)) t.common (cell_at t (p M) (q M)) (cell_at t i j) (cell_at t i (q M))
          (cell_at t (p M) j)
          ≡ entry T1 (basic_at (after_turn M) i) (nonbasic_at (after_turn M) j)
      go (yes e) (yes f) =
          rw (eq-eqb i (p M) e, eq-eqb j (q M) f)
          (crossing t.common (entry T r.variable w)
          ∙ sym (ap₂ (entry T1) (ap (basic_at (after_turn M)) e ∙ basic-left M)
          (ap (nonbasic_at (after_turn M)) f ∙ nonbasic-entered M)
          ∙ entry-is w r.variable M.entered.variable M.left.variable
          ∙ (rw (basic-zero-r w M.entered.variable, own-w, at-leaving) refl)))
      go (yes e) (no n) =
          rw (eq-eqb i (p M) e, ne_eqb j (q M) n)
          (in-leaving-row t.common (entry T r.variable w) (cell_at t (p M) j)
          ∙ sym (ap₂ (entry T1) (ap (basic_at (after_turn M)) e ∙ basic-left M) (nonbasic-stays M j n)
          ∙ entry-is w (nonbasic_at t j) M.entered.variable u-var
          ∙ (rw (
            M.rowed.own-zero w (nonbasic_at t j) M.entered.value M.entered.variable u-var
                M.entered.was-seated (w-elsewhere j k n),
            own-w,
            relation-off T r.variable (nonbasic_at t j) (seated-not-r j k),
            above j k,
          ) refl)))
      go (no n) (yes f) =
          rw (ne_eqb i (p M) n, eq-eqb j (q M) f)
          (in-entering-column t.common (entry T r.variable w) (cell_at t i (q M))
          ∙ sym (ap₂ (entry T1) (basic-stays M i n) (ap (nonbasic_at (after_turn M)) f ∙ nonbasic-entered M)
          ∙ entry-is (basic_at t i) r.variable v-var M.left.variable
          ∙ (rw (basic-zero-r (basic_at t i) v-var, at-leaving, beside i h) refl)))
      go (no n) (no m) =
          rw (ne_eqb i (p M) n, ne_eqb j (q M) m)
          (sym (ap₂ (entry T1) (basic-stays M i n) (nonbasic-stays M j m)
          ∙ entry-is (basic_at t i) (nonbasic_at t j) v-var u-var
          ∙ (rw (
            pivot-is M,
            M.stands.numbers.cell-is i j h k,
            above j k,
            beside i h,
            relation-off T r.variable (nonbasic_at t j) (seated-not-r j k),
          ) refl)))
