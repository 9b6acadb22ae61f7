-- docs/formats/smtlib.md, "Reading": what is told of a text that was read into a lent slice of so many words, and what
-- stands there afterwards.
use Rattle.std.specs.Prelude.{Bool, true, false, List, ◌++◌, ℕ, ltb, ℤ, drop, length}
use Rattle.rules.specs.Exchange.Reader.{TextOutcome, refused_at, words}
use Rattle.reader.specs.declared.Taken.{Taken}

-- 60, with the place of the first token that cannot stand there; 7 where the slice is too short
unfoldable pub fitting_by : List ℤ → Bool → Taken
fitting_by ws true = record { refused = 7; count = 0 }
fitting_by ws false = record { refused = 0; count = length ws }

unfoldable pub taken_by : TextOutcome → ℕ → Taken
taken_by (words ws) room = fitting_by ws (ltb room (length ws))
taken_by (refused_at p) room = record { refused = 60; count = p }

-- every refusal keeps the slice; else the words stand at its front, and then what was there
unfoldable pub kept_by : List ℤ → Bool → List ℤ → List ℤ
kept_by ws true before = before
kept_by ws false before = ws ++ drop (length ws) before

unfoldable pub taken_output : TextOutcome → List ℤ → List ℤ
taken_output (words ws) before = kept_by ws (ltb (length before) (length ws)) before
taken_output (refused_at p) before = before
