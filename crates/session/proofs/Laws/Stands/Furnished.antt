-- The same tableau with other values and limits stands for the same state with other values, under another choice of
-- limits.
--   Refit               what the values and the limits must be
--   stands-furnished    it stands then
use mathlib.Core.Bool.{Bool}
use mathlib.Core.List.{List}
use mathlib.Core.Option.{Option, none-ne-some, none, some}
use mathlib.Core.Path.{◌≡◌, ap, refl, sym, ◌∙◌}
use Prim.Native.Nat.{ℕ, ◌<◌}
use lib.IntN.{ℤ}
use lib.ListN.{length}
use Rattle.rules.specs.Keeping.Limits.{keeping}
use Rattle.rules.specs.Problem.{Problem, vars}
use Rattle.rules.specs.Sizes.{most_columns}
use Rattle.rules.specs.Step.{Side, State, seat}
use Rattle.rules.specs.Tableau.{entry}
use Rattle.tableau.specs.declared.Limits.{Limits}
use Rattle.tableau.specs.declared.Tableau.{Tableau}
use Rattle.tableau.specs.Parts.{basic_at, nonbasic_at, value_at}
use Rattle.tableau.specs.Stands.{Serves, Stands}
use Rattle.session.specs.Switching.{furnished}

pub record Refit (P : Problem (ℤ × ℤ)) (t : Tableau) (s x : State (ℤ × ℤ)) (values smalls : List ℤ) (l : Limits) :
    Type 0 where
  pub tableau-is : x.tableau ≡ s.tableau
  pub basic-before : (v : ℕ) → v < vars P → seat x v ≡ none → seat s v ≡ none
  pub basic-after : (v : ℕ) → v < vars P → seat s v ≡ none → seat x v ≡ none
  pub column-value : (j : ℕ) → j < P.n → seat x (nonbasic_at t j) ≡ some (value_at (furnished t values smalls l) j)
  pub values-many : length values ≡ most_columns
  pub smalls-many : length smalls ≡ most_columns
  pub limits-serve : Serves P l

module _ (P : Problem (ℤ × ℤ)) (on also : Side → ℕ → Bool) {t : Tableau} {s x : State (ℤ × ℤ)} {values smalls : List ℤ}
    {l : Limits} (S : Stands (keeping on P) t s) (R : Refit (keeping also P) t s x values smalls l) where
  seated-before : (v : ℕ) (y : ℤ × ℤ) → v < vars P → seat x v ≡ some y → (z : ℤ × ℤ) × (seat s v ≡ some z)
  seated-before v y h e = go (seat s v) refl
    where
      go : (o : Option (ℤ × ℤ)) → seat s v ≡ o → (z : ℤ × ℤ) × (seat s v ≡ some z)
      go (some z) q = (z, q)
      go none q = absurd (none-ne-some y (sym (R.basic-after v h q) ∙ e))

  pub stands-furnished : Stands (keeping also P) (furnished t values smalls l) x
  stands-furnished = record {
    sized = record {
      rows_is = S.sized.rows_is;
      columns-is = S.sized.columns-is;
      few-rows = S.sized.few-rows;
      few-columns = S.sized.few-columns;
      entries-long = S.sized.entries-long;
      basic-long = S.sized.basic-long;
      nonbasic-long = S.sized.nonbasic-long;
      values-long = R.values-many;
      smalls-long = R.smalls-many;
      seats-long = S.sized.seats-long;
    };
    placed = record {
      in_row = λ i h. let a = S.placed.in_row i h in record {
        variable-in = a.variable-in;
        is-basic = R.basic-after (basic_at t i) a.variable-in a.is-basic;
        back = a.back;
      };
      in-column = λ j h. let a = S.placed.in-column j h in
          record { variable-in = a.variable-in; is-seated = R.column-value j h; back = a.back };
      has-row = λ v h e. let a = S.placed.has-row v h (R.basic-before v h e) in
          record { flag = a.flag; in_rows = a.in_rows; holds = a.holds };
      has-column = λ v y h e. let b = seated-before v y h e in let a = S.placed.has-column v b.0 h b.1 in
          record { flag = a.flag; in-columns = a.in-columns; holds = a.holds };
    };
    numbers = record {
      common-is = S.numbers.common-is ∙ ap (λ T. T.common) (sym R.tableau-is);
      cell-is = λ i j h k. S.numbers.cell-is i j h k
          ∙ ap (λ T. entry T (basic_at t i) (nonbasic_at t j)) (sym R.tableau-is);
      unused = S.numbers.unused;
    };
    serves = R.limits-serve;
  }
