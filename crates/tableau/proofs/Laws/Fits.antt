-- A problem within the sizes of the rules, and the numbers of its tableau at the start of a run.
--   Fitting, fitting-accepted   a problem within the sizes; that of accepted words is one
--   serves-start                the limits of the tableau are the problem's, and in range
--   coefficients-start, coefficient-start   each entry is a coefficient, or 0; and which one
--   ranged-start                every number may stand in a tableau, and every value is 0 or what a limit stands for
use mathlib.Core.Bool.{Bool, cond, false, true}
use mathlib.Core.List.{List}
use mathlib.Core.Option.{Option, none, some}
use mathlib.Core.Path.{ap, ap₂, refl, sym, ◌∙◌, ◌≡◌}
use Prim.Native.Nat.{ℕ, ◌<◌, ◌≤◌}
use native.Mathlib.Omega.{arith}
use lib.IntN.{neg_ℤ, pos, ℤ}
use Rattle.whole.proofs.Lists.Below.{some-none}
use Rattle.whole.proofs.Bools.{or-false}
use Rattle.whole.proofs.Numbers.Sizes.{within-le}
use Rattle.whole.proofs.Lists.Tables.{filled-each, filled_in}
use Rattle.whole.specs.Numbers.{Within}
use Rattle.whole.specs.Values.{pairs}
use Rattle.rules.proofs.Refusal.Accepted.{coefficient-within, inset-within, lower-within, m-few, n-few}
use Rattle.rules.proofs.Refusal.Accepted.{outset-within, upper-within}
use Rattle.rules.specs.Limit.{Limit, inset, lower_pair, upper_pair}
use Rattle.rules.specs.Problem.{Problem, inner, mapped, problem, vars}
use Rattle.rules.specs.Refusal.{Accepted}
use Rattle.rules.specs.Sizes.{largest_coefficient, largest_limit, most_columns, most_rows, most_variables}
use Rattle.rules.specs.Step.{start_value}
use Rattle.layout.proofs.Laws.Layout.{column-flat, column-live, flat-live, row-flat, row-live}
use Rattle.layout.specs.Layout.{column_at, flat, live, most_entries, row_at}
use Rattle.amounts.specs.Amounts.{absent}
use Rattle.tableau.proofs.Laws.Read.{lower_of_lem, upper_of_lem}
use Rattle.tableau.specs.Parts.{cell, cell_at}
use Rattle.tableau.specs.Stands.{Ranged, Serves}
use Rattle.tableau.specs.Start.{given_of, is_strict, limits_for, start_laid, start_tableau, strict_at}

-- a problem within the sizes of the rules
pub record Fitting (P : Problem Limit) : Type 0 where
  pub few-rows : P.m ≤ most_rows
  pub few-columns : P.n ≤ most_columns
  pub coefficient-within : (i j : ℕ) → i < P.m → j < P.n → Within (P.coefficient i j) largest_coefficient
  pub lower-within : (v : ℕ) (l : Limit) → v < vars P → P.lower v ≡ some l → Within l.plain largest_limit
  pub upper-within : (v : ℕ) (u : Limit) → v < vars P → P.upper v ≡ some u → Within u.plain largest_limit

pub fitting-accepted : (ws : List ℤ) → Accepted most_rows ws → Fitting (problem ws)
unfolding problem
fitting-accepted ws A = record {
  few-rows = m-few A;
  few-columns = n-few A;
  coefficient-within = coefficient-within A;
  lower-within = lower-within A;
  upper-within = upper-within A;
}

-- ---- numbers in range

zero-within : {n : ℕ} → Within (pos 0) n
zero-within = record { within = omega arith }

given-within : {n : ℕ} (o : Option Limit) → ((l : Limit) → o ≡ some l → Within l.plain n) →
    Within (given_of o).plain n
given-within none h = zero-within
given-within (some l) h = h l refl

given-plain : (o : Option Limit) → is_strict o ≡ false → (given_of o).strict ≡ false
given-plain none h = refl
given-plain (some l) h = h

-- ---- the start value is 0, or what a limit stands for

cond-each : {A : Type 0} (Q : A → Type 0) (b : Bool) {x y : A} → Q x → Q y → Q (cond b x y)
cond-each Q true h k = h
cond-each Q false h k = k

start-each : (Q : ℤ × ℤ → Type 0) → Q pairs.nil → (o p : Option Limit) →
    ((l : Limit) → o ≡ some l → Q (lower_pair l)) → ((u : Limit) → p ≡ some u → Q (upper_pair u)) →
    Q (start_value pairs (mapped lower_pair o) (mapped upper_pair p))
unfolding start_value mapped
start-each Q z none none h k = z
start-each Q z none (some u) h k = cond-each Q (pairs.less (upper_pair u) pairs.nil) (k u refl) z
start-each Q z (some l) none h k = cond-each Q (pairs.less pairs.nil (lower_pair l)) (h l refl) z
start-each Q z (some l) (some u) h k = cond-each Q (pairs.less pairs.nil (lower_pair l)) (h l refl)
    (cond-each Q (pairs.less (upper_pair u) pairs.nil) (k u refl) z)

module _ (P : Problem Limit) (F : Fitting P) where
  -- where the flag says so no limit is strict
  plain_at_lem : (limits_for P).strict ≡ false → (v : ℕ) → v < vars P →
      (is_strict (P.lower v) ≡ false) × (is_strict (P.upper v) ≡ false)
  unfolding limits_for
  plain_at_lem e v h = or-false (is_strict (P.lower v)) (is_strict (P.upper v)) (some-none (vars P) (strict_at P) e v h)

  pub serves-start : Serves (inner P) (limits_for P)
  unfolding limits_for
  serves-start = record {
    lower-is = λ v h. ap (mapped lower_pair) (sym (lower_of_lem P v h));
    upper_is = λ v h. ap (mapped upper_pair) (sym (upper_of_lem P v h));
    lowers-within = filled-each most_variables absent (vars P) _ (λ g. Within g.plain largest_limit) zero-within
        (λ v h. given-within (P.lower v) (λ l. F.lower-within v l h));
    uppers-within = filled-each most_variables absent (vars P) _ (λ g. Within g.plain largest_limit) zero-within
        (λ v h. given-within (P.upper v) (λ u. F.upper-within v u h));
    lowers-plain = λ e. filled-each most_variables absent (vars P) _ (λ g. g.strict ≡ false) refl
        (λ v h. given-plain (P.lower v) (plain_at_lem e v h).0);
    uppers-plain = λ e. filled-each most_variables absent (vars P) _ (λ g. g.strict ≡ false) refl
        (λ v h. given-plain (P.upper v) (plain_at_lem e v h).1);
  }

  abbrev coefficient-at : ℕ → ℤ
  coefficient-at k = P.coefficient (row_at P.m P.n k) (column_at P.m P.n k)

  -- at the start every entry is a coefficient, or 0
  pub coefficients-start : (k : ℕ) → Within (cell (start_tableau P) k) largest_coefficient
  unfolding start_laid
  coefficients-start = filled-each most_entries (pos 0) (live P.m P.n) coefficient-at
      (λ z. Within z largest_coefficient) zero-within
      (λ k h. F.coefficient-within _ _ (row-live P.m P.n k h) (column-live P.m P.n k h))

  pub coefficient-start : (i j : ℕ) → i < P.m → j < P.n → cell_at (start_tableau P) i j ≡ P.coefficient i j
  unfolding start_laid
  coefficient-start i j h k =
      filled_in most_entries (pos 0) (live P.m P.n) coefficient-at (flat P.m P.n i j)
      (flat-live P.m P.n i j h k)
      ∙ ap₂ P.coefficient (row-flat P.m P.n i j h k) (column-flat P.m P.n i j h k)

  pub ranged-start : Ranged (start_tableau P)
  unfolding start_laid
  ranged-start = record {
    cells = record {
      common-within = record { within = omega arith };
      cell-within = λ k. within-le (coefficients-start k) (omega arith);
    };
    values-within = filled-each most_columns (pos 0) P.n _ (λ z. Within z largest_limit) zero-within
        (λ j h. start-each (λ z. Within z.0 largest_limit) zero-within (P.lower j) (P.upper j)
        (λ l. F.lower-within j l (omega arith)) (λ u. F.upper-within j u (omega arith)));
    smalls-within = filled-each most_columns (pos 0) P.n _ (λ z. Within z 1) zero-within
        (λ j h. start-each (λ z. Within z.1 1) zero-within (P.lower j) (P.upper j)
        (λ l q. inset-within l.strict) (λ u q. outset-within u.strict));
    smalls-plain = λ e. filled-each most_columns (pos 0) P.n _ (λ z. z ≡ pos 0) refl
        (λ j h. let a = plain_at_lem e j (omega arith) in
        start-each (λ z. z.1 ≡ pos 0) refl (P.lower j) (P.upper j)
        (λ l q. ap inset (sym (ap is_strict q) ∙ a.0))
        (λ u q. ap (λ b. neg_ℤ (inset b)) (sym (ap is_strict q) ∙ a.1)));
  }
