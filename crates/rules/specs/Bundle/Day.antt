-- docs/RULES.md, "A day's file": what is printed for it. Bodies print in their order, each as the program prints a
-- problem; one that is refused has its own line, and the others follow. A file that is refused has one line.
use mathlib.Core.List.{List, flatten, map}
use Rattle.std.specs.Prelude.{ℕ, zero, suc, ℤ}
use Rattle.rules.specs.Refusal.{first, problem_tests}
use Rattle.rules.specs.Program.Bytes.{words_from}
use Rattle.rules.specs.Program.Text.{refusal_text}
use Rattle.rules.specs.Program.Reply.{reply_to}
use Rattle.rules.specs.Bundle.File.{bodies_in, edition_in, file_refusal, rows_in}

-- a body is judged as words, with the rows of its file's edition; its count of bytes is not judged
unfoldable pub body_refusal : ℕ → List ℤ → ℕ
body_refusal e body = first (problem_tests (rows_in e) body)

unfoldable pub body_text : ℕ → List ℤ → List ℕ
body_text e body = reply_to (body_refusal e body) body

-- by the refusal of the file
unfoldable pub day_after : ℕ → List ℤ → List ℕ
day_after zero ws = flatten (map (body_text (edition_in ws)) (bodies_in ws))
day_after (suc k) ws = refusal_text (suc k)

unfoldable pub day_text : List ℕ → List ℕ
day_text bs = day_after (file_refusal bs) (words_from bs)
