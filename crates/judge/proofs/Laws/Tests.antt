-- The refusal of the words of a problem, test after test, within so many rows.
--   few-hit, size-hit, length-hit    a test applies, and none before it does
--   least, few-columns, few-rows     what the test of the sizes leaves
--   frame-is, tests-passed           none of the three applies: the words are framed, and the tests over them decide
use Rattle.std.proofs.Common.{◌≡◌, ◌≢◌, ◌+◌, ◌*◌, ◌≤◌, ◌<◌, sym, ◌∙◌, ap₂, true, false, [], ◌∷◌, List, ℕ, ℤ}
use Rattle.std.proofs.Common.{pos, length, drop, ◌≤ℤ◌}
use native.Mathlib.Nat.{le_trans, mul-le-mul}
use lib.Signed.{le_z_yes}
use Rattle.whole.proofs.Numbers.Order.{≤ℤ-trans}
use Rattle.whole.proofs.Numbers.Tests.{under-size}
use Rattle.whole.proofs.Tells.{tells-false, tells-true}
use Rattle.rules.specs.Sizes.{most_cells, most_columns, most_rows}
use Rattle.rules.specs.Problem.{m_of, n_of, vars_of, word}
use Rattle.rules.specs.Refusal.{bad_coefficient, bad_kind, bad_limit, bad_size, first, problem_refusal_within}
use Rattle.rules.specs.Refusal.{problem_tests, some_blank}
use Rattle.rules.specs.Facts.Refusal.{InRange}
use Rattle.rules.proofs.Refusal.First.{first-hit, first-skip}
use Rattle.rules.proofs.Refusal.Exactly.{few-tells, length-tells, size-tells}
use Rattle.words.specs.Sizes.{sizes_outside}
use Rattle.judge.specs.Words.{Framed}

module _ (most : ℕ) (ws : List ℤ) where
  abbrev number : ℕ
  number = problem_refusal_within most ws

  -- the first k tests do not apply
  abbrev Skips : ℕ → Type 0
  Skips k = number ≡ first (drop k (problem_tests most ws))

  pub few-hit : length ws < 2 → 1 ≡ number
  unfolding problem_tests
  few-hit h = sym (first-hit 1 _ (tells-true (few-tells ws) h))

  module _ (enough : 2 ≤ length ws) where
    skip-1 : Skips 1
    unfolding problem_tests
    skip-1 = first-skip 1 _ (tells-false (few-tells ws) enough)

    pub size-hit : sizes_outside most_columns most ws ≡ true → 2 ≡ number
    unfolding problem_tests bad_size
    size-hit e = sym (skip-1 ∙ first-hit 2 _ e)

    module _ (fine : sizes_outside most_columns most ws ≡ false) where
      skip-2 : Skips 2
      unfolding problem_tests bad_size
      skip-2 = skip-1 ∙ first-skip 2 _ fine

      sizes : InRange 1 most_columns (word ws 0) × InRange 0 most (word ws 1)
      unfolding bad_size
      sizes = (size-tells ws most).if-false fine

      pub least : (pos 0 ≤ℤ word ws 0) × (pos 0 ≤ℤ word ws 1)
      least = (≤ℤ-trans {b = pos 1} (le_z_yes tt) sizes.0.0, sizes.1.0)

      module _ (small : most ≤ most_rows) (n m : ℕ) (columns-are : n ≡ n_of ws) (rows-are : m ≡ m_of ws) where
        pub few-columns : n ≤ most_columns
        few-columns = rw columns-are (under-size most_columns 1 _ sizes.0.0 sizes.0.1)

        pub few-rows : m ≤ most_rows
        few-rows = le_trans (rw rows-are (under-size most 0 _ sizes.1.0 sizes.1.1)) small

        pub few-cells : m * n ≤ most_cells
        few-cells = mul-le-mul few-rows few-columns

        -- the exact length, by the two counts and by the words
        exact-is : 2 + m * n + 3 * (n + m) ≡ 2 + m_of ws * n_of ws + 3 * vars_of ws
        exact-is = ap₂ (λ k l. 2 + l * k + 3 * (k + l)) columns-are rows-are

        pub length-hit : length ws ≢ 2 + m * n + 3 * (n + m) → 3 ≡ number
        unfolding problem_tests
        length-hit h = sym (skip-2 ∙ first-hit 3 _ (tells-true (length-tells ws) (λ e. h (e ∙ sym exact-is))))

        module _ (exact : length ws ≡ 2 + m * n + 3 * (n + m)) where
          pub frame-is : Framed ws n m
          frame-is = record {
            columns-are = columns-are;
            rows_are = rows-are;
            few-columns = few-columns;
            few-rows = few-rows;
            exact = exact;
          }

          pub tests-passed : first ((bad_coefficient ws, 4) ∷ (bad_kind ws, 5) ∷ (bad_limit ws, 6) ∷ (
            some_blank ws,
            10,
          ) ∷ [])
              ≡ number
          unfolding problem_tests
          tests-passed = sym (skip-2 ∙ first-skip 3 _ (tells-false (length-tells ws) (exact ∙ exact-is)))
