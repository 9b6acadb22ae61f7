-- docs/RULES.md, "The program": all that is printed for the bytes of standard input.
use Rattle.std.specs.Prelude.{List, ℕ, zero, suc, ℤ, length}
use Rattle.rules.specs.Problem.{vars_of}
use Rattle.rules.specs.Refusal.{problem_refusal}
use Rattle.rules.specs.Answer.{answer}
use Rattle.rules.specs.Program.Bytes.{count_refusal, words_from}
use Rattle.rules.specs.Program.Text.{answer_text, refusal_text}

-- by the refusal of the words
unfoldable pub reply_to : ℕ → List ℤ → List ℕ
reply_to zero ws = answer_text (answer ws) (vars_of ws)
reply_to (suc k) ws = refusal_text (suc k)

-- by the refusal of the byte count, which comes first
unfoldable pub reply_after : ℕ → List ℤ → List ℕ
reply_after zero ws = reply_to (problem_refusal ws) ws
reply_after (suc k) ws = refusal_text (suc k)

unfoldable pub program_text : List ℕ → List ℕ
program_text input = reply_after (count_refusal (length input)) (words_from input)
