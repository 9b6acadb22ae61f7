-- The lines of a sheet, from the struct: those of rules/specs/Sheet/Text with its counts.
use Rattle.std.specs.Prelude.{List, None, Option, Some, ◌++◌, ℕ, pos, get_or}
use Rattle.std.proofs.Math.Option as math
use Rattle.rules.specs.Program.Text.{ascii, line, lines_below}
use Rattle.rules.specs.Sheet.Text.{largest_line, named_line, refused_lines}
use Rattle.rules.specs.Sizes.{most_variables}
use Rattle.tally.specs.declared.Totals.{Totals}

abbrev pub count_at : List ℕ → ℕ → ℕ
count_at counts v = get_or counts v 0

unfoldable pub reached_name : Option ℕ → math.Option ℕ
reached_name None = math.none
reached_name (Some i) = math.some i

unfoldable pub count_lines : Totals → List ℕ
count_lines t =
    line (ascii "bodies ") (pos t.bodies) ++ line (ascii "can ") (pos t.can)
    ++ line (ascii "cannot ") (pos t.cannot) ++ line (ascii "range ") (pos t.range)

unfoldable pub named_lines : List ℕ → List ℕ → List ℕ
named_lines lower upper = lines_below most_variables (λ v. named_line v (count_at lower v) (count_at upper v))

unfoldable pub sheet_of : Totals → List ℕ
sheet_of t =
    count_lines t ++ refused_lines (count_at t.refused) ++ line (ascii "pivots ") (pos t.pivots)
    ++ largest_line t.largest (reached_name t.reached) ++ named_lines t.lower t.upper
