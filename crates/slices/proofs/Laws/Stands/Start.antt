-- What a start hands back stands for the first state of the problem, or for that of case H.
--   idle-fine, started-fine   the words whose state is handed back are a problem
--   begun-refused, begun-fine     the equation of the promise
--   starts-as                 what a start means
use mathlib.Core.List.{List}
use mathlib.Core.Logic.{◌≢◌}
use mathlib.Core.Path.{◌≡◌, ap, refl, subst, sym, ◌∙◌}
use Prim.Native.Nat.{ℕ, zero, suc}
use native.Mathlib.Omega.{arith}
use lib.IntN.{ℤ}
use Rattle.whole.specs.Below.{all_below, some_below}
use Rattle.whole.specs.Numbers.{outside, within}
use Rattle.whole.specs.Values.{pairs}
use Rattle.rules.specs.Limit.{bad_kind_word, bad_limit_word, bit}
use Rattle.rules.specs.Problem.{inner, problem}
use Rattle.rules.specs.Refusal.{bad_coefficient, bad_kind, bad_length, bad_limit, bad_size, blank_row, first}
use Rattle.rules.specs.Refusal.{problem_refusal}
use Rattle.rules.specs.Refusal.{problem_tests, some_blank, too_few}
use Rattle.rules.specs.Runs.Slices.{begun}
use Rattle.tableau.specs.declared.Tableau.{Tableau}
use Rattle.tableau.specs.Start.{start_tableau}
use Rattle.solver.proofs.Laws.Refusals.{holds-start}
use Rattle.slices.specs.declared.Begun.{Begun}
use Rattle.slices.specs.Slices.{SliceHolds, StartsAs, begun_at, idle, started_problem, started_words}

pub idle-fine : problem_refusal idle ≡ 0
unfolding problem_refusal problem_tests first too_few bad_size bad_length bad_coefficient bad_kind bad_limit
    some_blank blank_row
    bad_kind_word bad_limit_word bit some_below all_below outside within
idle-fine = refl

module _ (ws : List ℤ) where
  pub started-fine : problem_refusal (started_words (problem_refusal ws) ws) ≡ 0
  started-fine = go (problem_refusal ws) refl
    where
      go : (k : ℕ) → problem_refusal ws ≡ k → problem_refusal (started_words k ws) ≡ 0
      go zero e = e
      go (suc k) e = idle-fine

  begun-holds : SliceHolds (begun pairs (inner (started_problem ws))) (begun_at ws).slice
  unfolding begun_at
  begun-holds = holds-start (started_words (problem_refusal ws) ws) (start_tableau (started_problem ws)) refl
      started-fine

  begun-as : StartsAs ws (begun_at ws)
  unfolding begun_at
  begun-as = record { number = refl; state = begun-holds; standing = record { slice = _; holds = begun-holds } }

  pub starts-as : (r : Begun) → r ≡ begun_at ws → StartsAs ws r
  starts-as r e = subst (StartsAs ws) (sym e) begun-as

  -- by the number that the words get
  begun-by : (k : ℕ) → k ≡ problem_refusal ws → (t : Tableau) → t ≡ start_tableau (problem (started_words k ws)) →
      record { refused = k; slice = record { count = 0; tableau = t } } ≡ begun_at ws
  unfolding begun_at
  begun-by k e t f = ap (λ u. record { refused = k; slice = record { count = 0; tableau = u } }) f
      ∙ ap (λ j. record { refused = j; slice = record { count = 0; tableau = at j } }) e
    where
      at : ℕ → Tableau
      at j = start_tableau (problem (started_words j ws))

  pub begun-refused : (k : ℕ) → k ≡ problem_refusal ws → k ≢ 0 → (t : Tableau) → t ≡ start_tableau (problem idle) →
      record { refused = k; slice = record { count = 0; tableau = t } } ≡ begun_at ws
  begun-refused zero e n t f = absurd (n refl)
  begun-refused (suc k) e n t f = begun-by (suc k) e t f

  pub begun-fine : (k : ℕ) → k ≡ problem_refusal ws → k ≡ 0 → (t : Tableau) → t ≡ start_tableau (problem ws) →
      record { refused = k; slice = record { count = 0; tableau = t } } ≡ begun_at ws
  begun-fine zero e n t f = begun-by zero e t f
  begun-fine (suc k) e n t f = let z : ⊥ = omega arith in absurd z
