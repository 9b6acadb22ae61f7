-- The totals of the bodies 0 to k - 1 as the struct holds them: each field is a count of rules/specs/Sheet/Totals.
use Rattle.std.specs.Prelude.{List, None, Option, Some, ℕ, ℤ}
use Rattle.std.proofs.Math.Option as math
use Rattle.whole.specs.Tables.{table}
use Rattle.rules.specs.Bundle.File.{bodies_in, count_in, edition_in, rows_in}
use Rattle.rules.specs.Sheet.Totals.{body_at, largest_body, largest_pivots, lower_named, of_class, pivot_sum, refused}
use Rattle.rules.specs.Sheet.Totals.{upper_named, verdict}
use Rattle.rules.specs.Sizes.{most_variables}
use Rattle.tally.specs.declared.Totals.{Totals}

unfoldable pub reached_by : math.Option ℕ → Option ℕ
reached_by math.none = None
reached_by (math.some i) = Some i

unfoldable pub totals_of : ℕ → ℕ → (ℕ → List ℤ) → Totals
totals_of rows k body = record {
  bodies = k;
  can = of_class rows k body (verdict 1);
  cannot = of_class rows k body (verdict 2);
  range = of_class rows k body (verdict 3);
  refused = table 11 (λ j. of_class rows k body (refused j));
  pivots = pivot_sum rows k body;
  largest = largest_pivots rows k body;
  reached = reached_by (largest_body rows k body);
  lower = table most_variables (lower_named rows k body);
  upper = table most_variables (upper_named rows k body);
}

-- of the bodies in the words of a file, with the rows of its edition
abbrev pub totals_in : List ℤ → Totals
totals_in ws = totals_of (rows_in (edition_in ws)) (count_in ws) (body_at (bodies_in ws))
