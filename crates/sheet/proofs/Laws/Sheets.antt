-- The lines of the totals are the sheet.
--   sheet-lines               of k bodies
--   sheet-room, sheet-put     of a file: they are few enough for any slice
--   refused-put               the line of a file that is refused
use mathlib.Core.List.{List, ◌++◌}
use mathlib.Core.Option.{Option, none, some}
use mathlib.Core.Logic.{◌≢◌}
use mathlib.Core.Path.{ap, ap₂, refl, sym, ◌∙◌, ◌≡◌}
use Prim.Native.Nat.{suc, zero, ℕ, ◌+◌, ◌^◌, ◌<◌}
use native.Mathlib.Omega.{arith}
use lib.IntN.{pos, ℤ}
use Rattle.whole.proofs.Lists.Tables.{table_at}
use Rattle.rules.specs.Program.Text.{ascii, line, lines_below, refusal_text}
use Rattle.rules.specs.Program.Bytes.{words_from}
use Rattle.rules.specs.Bundle.File.{bodies_in, count_in, edition_in, file_refusal, rows_in}
use Rattle.rules.specs.Sheet.File.{file_sheet}
use Rattle.rules.specs.Sheet.Text.{largest_line, named_line, refused_line, refused_lines, sheet_lines, sheet_text}
use Rattle.rules.specs.Sheet.Totals.{body_at, largest_body, largest_pivots, lower_named, of_class, pivot_sum, refused}
use Rattle.rules.specs.Sheet.Totals.{upper_named, verdict}
use Rattle.rules.specs.Sizes.{most_sheet, most_text, most_variables}
use Rattle.rules.proofs.Bundle.Bodies.{bodies-many}
use Rattle.rules.proofs.Sheet.File.{file-sheet-short, sheet-is, sheet-refused}
use Rattle.put.specs.Put.{Put, PutShort, Room}
use Rattle.put.specs.declared.Writer.{Writer}
use Rattle.whole.specs.Tables.{table}
use Rattle.sheet.specs.Lines.{count_at, count_lines, reached_name, named_lines, sheet_of}
use Rattle.tally.specs.Sums.{reached_by, totals_in, totals_of}
use Rattle.tally.specs.declared.Totals.{Totals}

lines_same : (k : ℕ) (f g : ℕ → List ℕ) → ((v : ℕ) → v < k → f v ≡ g v) → lines_below k f ≡ lines_below k g
unfolding lines_below
lines_same zero f g h = refl
lines_same (suc k) f g h =
    ap₂ (λ (s t : List ℕ). s ++ t) (lines_same k f g (λ v l. h v (omega arith))) (h k (omega arith))

refused-same : (f g : ℕ → ℕ) → ((j : ℕ) → j < 11 → f j ≡ g j) → refused_lines f ≡ refused_lines g
unfolding refused_lines
refused-same f g h =
    ap₂ (λ (s t : List ℕ). s ++ t)
    (lines_same 6 (λ j. refused_line (j + 1) (f (j + 1))) (λ j. refused_line (j + 1) (g (j + 1)))
    (λ j l. ap (refused_line (j + 1)) (h (j + 1) (omega arith))))
    (ap (refused_line 10) (h 10 (omega arith)))

named-same : (o : Option ℕ) → reached_name (reached_by o) ≡ o
unfolding reached_name reached_by
named-same none = refl
named-same (some i) = refl

sheet-lines : (rows k : ℕ) (body : ℕ → List ℤ) → sheet_of (totals_of rows k body) ≡ sheet_lines rows k body
unfolding sheet_of totals_of count_lines named_lines sheet_lines
sheet-lines rows k body =
    ap₂ (λ (s t : List ℕ). s ++ t)
    (ap₂ (λ (s t : List ℕ). s ++ t)
    (ap (λ (s : List ℕ). counts ++ s ++ line (ascii "pivots ") (pos (pivot_sum rows k body)))
    (refused-same (count_at (table 11 away)) away (λ j l. table_at 11 away 0 j l)))
    (ap (largest_line (largest_pivots rows k body)) (named-same (largest_body rows k body))))
    (lines_same most_variables
    (λ v. named_line v (count_at (table most_variables lower) v) (count_at (table most_variables upper) v))
    (λ v. named_line v (lower v) (upper v))
    (λ v l. ap₂ (named_line v) (table_at most_variables lower 0 v l) (table_at most_variables upper 0 v l)))
  where
    away : ℕ → ℕ
    away j = of_class rows k body (refused j)

    lower : ℕ → ℕ
    lower = lower_named rows k body

    upper : ℕ → ℕ
    upper = upper_named rows k body

    counts : List ℕ
    counts =
        line (ascii "bodies ") (pos k)
        ++ line (ascii "can ") (pos (of_class rows k body (verdict 1)))
        ++ line (ascii "cannot ") (pos (of_class rows k body (verdict 2)))
        ++ line (ascii "range ") (pos (of_class rows k body (verdict 3)))

-- ---- the sheet of a file: it is short, so there is room for it, and it can be printed

module _ (bs : List ℕ) (fine : file_refusal bs ≡ 0) {t : Totals} (is : t ≡ totals_in (words_from bs)) where
  abbrev ws : List ℤ
  ws = words_from bs

  text-is : sheet_of t ≡ file_sheet bs
  unfolding sheet_text
  text-is =
      ap sheet_of is ∙ sheet-lines (rows_in (edition_in ws)) (count_in ws) (body_at (bodies_in ws))
      ∙ ap (λ k. sheet_lines (rows_in (edition_in ws)) k (body_at (bodies_in ws))) (sym (bodies-many ws))
      ∙ sym (sheet-is bs fine)

  pub sheet-room : {w : Writer} → w.at + most_sheet < 2 ^ 64 → Room w (sheet_of t)
  sheet-room l = let h = file-sheet-short bs in rw text-is (record { room = omega (arith, h, l) })

  pub sheet-put : {v w : Writer} → Put v (sheet_of t) w → PutShort most_sheet v (file_sheet bs) w
  sheet-put p = record { put = rw text-is at p; short = file-sheet-short bs }

-- a file that is refused has the line of its refusal
pub refused-put : (bs : List ℕ) (k : ℕ) → k ≡ file_refusal bs → k ≢ 0 → {v w : Writer} →
    PutShort most_text v (refusal_text k) w → PutShort most_sheet v (file_sheet bs) w
refused-put bs zero e n p = absurd (n refl)
refused-put bs (suc k) e n p =
    record { put = rw (sym (sheet-refused bs k (sym e))) at p.put; short = file-sheet-short bs }
