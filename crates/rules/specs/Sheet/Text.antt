-- docs/RULES.md, "The auditor's sheet": the lines of a sheet, byte for byte. Every line is always there.
--   sheet_text    the text of the sheet of a list of bodies
use Rattle.std.specs.Prelude.{List, ◌++◌, ℕ, ◌+◌, ℤ, pos, length}
use Rattle.std.proofs.Math.Option.{Option, none, some}
use Rattle.rules.specs.Program.Text.{ascii, digits, line, lines_below}
use Rattle.rules.specs.Sheet.Totals.{body_at, largest_body, largest_pivots, lower_named, of_class, pivot_sum, refused}
use Rattle.rules.specs.Sheet.Totals.{upper_named, verdict}
use Rattle.rules.specs.Sizes.{most_variables}

-- ---- the lines

unfoldable pub refused_line : ℕ → ℕ → List ℕ
refused_line k count = ascii "refused " ++ digits k ++ line (ascii " ") (pos count)

-- 1 to 6, then 10
unfoldable pub refused_lines : (ℕ → ℕ) → List ℕ
refused_lines count = lines_below 6 (λ j. refused_line (j + 1) (count (j + 1))) ++ refused_line 10 (count 10)

unfoldable pub body_name : Option ℕ → List ℕ
body_name none = ascii "none"
body_name (some i) = digits i

unfoldable pub largest_line : ℕ → Option ℕ → List ℕ
largest_line most o = ascii "largest " ++ digits most ++ ascii " body " ++ body_name o ++ ascii "\n"

unfoldable pub named_line : ℕ → ℕ → ℕ → List ℕ
named_line v lower upper = digits v ++ ascii " lower " ++ digits lower ++ line (ascii " upper ") (pos upper)

unfoldable pub sheet_lines : ℕ → ℕ → (ℕ → List ℤ) → List ℕ
sheet_lines rows k body =
    line (ascii "bodies ") (pos k)
    ++ line (ascii "can ") (pos (of_class rows k body (verdict 1)))
    ++ line (ascii "cannot ") (pos (of_class rows k body (verdict 2)))
    ++ line (ascii "range ") (pos (of_class rows k body (verdict 3)))
    ++ refused_lines (λ j. of_class rows k body (refused j))
    ++ line (ascii "pivots ") (pos (pivot_sum rows k body))
    ++ largest_line (largest_pivots rows k body) (largest_body rows k body)
    ++ lines_below most_variables (λ v. named_line v (lower_named rows k body v) (upper_named rows k body v))

unfoldable pub sheet_text : ℕ → List (List ℤ) → List ℕ
sheet_text rows bodies = sheet_lines rows (length bodies) (body_at bodies)
