-- What is printed for an input, in plain words.
--   reply-counted    the byte count is refused, whatever the words
--   reply-refused    the count passes, and the words are refused
--   reply-answered   both pass: the answer's text
use mathlib.Core.List.{List}
use mathlib.Core.Path.{◌≡◌, refl}
use Prim.Native.Nat.{ℕ, zero, suc}
use lib.ListN.{length}
use Rattle.rules.specs.Problem.{vars_of}
use Rattle.rules.specs.Refusal.{problem_refusal}
use Rattle.rules.specs.Answer.{answer}
use Rattle.rules.specs.Program.Bytes.{count_refusal, words_from}
use Rattle.rules.specs.Program.Text.{answer_text, refusal_text}
use Rattle.rules.specs.Program.Reply.{program_text, reply_after, reply_to}

module _ (input : List ℕ) where
  pub reply-counted : (k : ℕ) → (k ≡ 0 → ⊥) → count_refusal (length input) ≡ k → program_text input ≡ refusal_text k
  unfolding program_text reply_after
  reply-counted zero h e = absurd (h refl)
  reply-counted (suc k) h e = rw e refl

  pub reply-refused :
      (k : ℕ) → (k ≡ 0 → ⊥) → count_refusal (length input) ≡ 0 → problem_refusal (words_from input) ≡ k
      → program_text input ≡ refusal_text k
  unfolding program_text reply_after reply_to
  reply-refused zero h e f = absurd (h refl)
  reply-refused (suc k) h e f = rw (e, f) refl

  pub reply-answered :
      count_refusal (length input) ≡ 0 → problem_refusal (words_from input) ≡ 0
      → program_text input ≡ answer_text (answer (words_from input)) (vars_of (words_from input))
  unfolding program_text reply_after reply_to
  reply-answered e f = rw (e, f) refl
