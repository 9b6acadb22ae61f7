-- The text of a file, body after body.
--   put-within      a text that is short is within a larger bound
--   body-reply      a body's own text is what the program prints for its words with the rows of its edition
--   day-refused-by  the text of a file that is refused
use mathlib.Core.List.{List}
use mathlib.Core.Logic.{◌≢◌}
use mathlib.Core.Path.{◌≡◌, ap, refl, ◌∙◌}
use Prim.Native.Nat.{ℕ, zero, suc, ◌≤◌}
use native.Mathlib.Nat.{min-eq_left}
use native.Mathlib.Omega.{arith}
use lib.IntN.{ℤ}
use Rattle.rules.specs.Refusal.{problem_refusal_within, rows_within}
use Rattle.rules.specs.Program.Bytes.{words_from}
use Rattle.rules.specs.Program.Reply.{reply_to}
use Rattle.rules.specs.Program.Text.{refusal_text}
use Rattle.rules.specs.Bundle.File.{file_refusal, rows_in}
use Rattle.rules.specs.Bundle.Day.{body_refusal, body_text, day_after, day_text}
use Rattle.put.specs.Put.{PutShort}
use Rattle.put.specs.declared.Writer.{Writer}
use Rattle.rules.proofs.Bundle.Places.{edition-rows}

-- a text that is short is within a larger bound
pub put-within : {v w : Writer} {s : List ℕ} {a b : ℕ} → a ≤ b → PutShort a v s w → PutShort b v s w
put-within h p = record { put = p.put; short = omega (arith, p.short) }

-- no edition has more rows than a problem
pub body-reply : (e rows : ℕ) → rows ≡ rows_in e → (body : List ℤ) →
    reply_to (problem_refusal_within (rows_within rows) body) body ≡ body_text e body
unfolding body_text body_refusal
body-reply e rows q body = ap (λ n. reply_to (problem_refusal_within n body) body)
    (ap rows_within q ∙ min-eq_left (edition-rows e))

pub day-refused-by : (bs : List ℕ) (k : ℕ) → k ≡ file_refusal bs → k ≢ 0 → refusal_text k ≡ day_text bs
unfolding day_text day_after
day-refused-by bs zero e n = absurd (n refl)
day-refused-by bs (suc k) e n = ap (λ j. day_after j (words_from bs)) e
