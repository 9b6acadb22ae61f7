-- docs/formats/smtlib.md, "The program `lab`": all that it prints for the bytes of standard input.
use Rattle.std.specs.Prelude.{Bool, false, true, List, ℕ, ltb, pos, length}
use Rattle.rules.specs.Exchange.Reader.{TextOutcome, read_text, refused_at, words}
use Rattle.rules.specs.Program.Reply.{reply_to}
use Rattle.rules.specs.Program.Text.{ascii, line}
use Rattle.rules.specs.Refusal.{problem_refusal}
use Rattle.rules.specs.Sizes.{most_input}

unfoldable pub place_text : ℕ → List ℕ
place_text p = line (ascii "refused at ") (pos p)

-- by what the text is read as
unfoldable pub outcome_text : TextOutcome → List ℕ
outcome_text (words ws) = reply_to (problem_refusal ws) ws
outcome_text (refused_at p) = place_text p

-- by whether it is too long
unfoldable pub lab_after : Bool → List ℕ → List ℕ
lab_after true t = place_text most_input
lab_after false t = outcome_text (read_text t)

unfoldable pub lab_text : List ℕ → List ℕ
lab_text t = lab_after (ltb most_input (length t)) t
