-- docs/RULES.md, "The auditor's sheet": the sheet of a day's file, over its bodies with the rows of its edition. A file
-- that is refused has the line of its refusal alone.
use Rattle.std.specs.Prelude.{List, ℕ, zero, suc, ℤ}
use Rattle.rules.specs.Program.Bytes.{words_from}
use Rattle.rules.specs.Program.Text.{refusal_text}
use Rattle.rules.specs.Bundle.File.{bodies_in, edition_in, file_refusal, rows_in}
use Rattle.rules.specs.Sheet.Text.{sheet_text}

-- by the refusal of the file
unfoldable pub sheet_after : ℕ → List ℤ → List ℕ
sheet_after zero ws = sheet_text (rows_in (edition_in ws)) (bodies_in ws)
sheet_after (suc k) ws = refusal_text (suc k)

unfoldable pub file_sheet : List ℕ → List ℕ
file_sheet bs = sheet_after (file_refusal bs) (words_from bs)
