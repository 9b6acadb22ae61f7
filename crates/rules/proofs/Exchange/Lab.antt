-- What `lab` prints for a text, in plain words.
--   lab-endless    more than 65,536 bytes: refused at 65536, whatever they are
--   lab-refused    else, where the text is refused, its place
--   lab-answered   and where it is read, what the program prints for its words
use mathlib.Core.List.{List, ◌++◌}
use mathlib.Core.Path.{ap, ◌∙◌, ◌≡◌}
use Prim.Native.Nat.{ℕ, ◌<◌, ◌≤◌}
use borrow.Author.Tests.{le-ltb, lt-ltb}
use lib.IntN.{ℤ}
use lib.ListN.{length}
use Rattle.rules.specs.Exchange.Lab.{lab_after, lab_text, outcome_text, place_text}
use Rattle.rules.specs.Exchange.Reader.{read_text, refused_at, words}
use Rattle.rules.specs.Program.Reply.{reply_to}
use Rattle.rules.specs.Program.Text.{ascii, decimal, digits, digits_turns, line}
use Rattle.rules.specs.Refusal.{problem_refusal}

module _ (t : List ℕ) where
  pub lab-endless : 65536 < length t → lab_text t ≡ ascii "refused at 65536\n"
  unfolding lab_text lab_after place_text line decimal digits digits_turns ascii
  lab-endless h = ap (λ b. lab_after b t) (lt-ltb 65536 (length t) h)

  module _ (h : length t ≤ 65536) where
    lab-read : lab_text t ≡ outcome_text (read_text t)
    unfolding lab_text lab_after
    lab-read = ap (λ b. lab_after b t) (le-ltb 65536 (length t) h)

    pub lab-refused : (p : ℕ) → read_text t ≡ refused_at p → lab_text t ≡ ascii "refused at " ++ digits p ++ ascii "\n"
    unfolding outcome_text place_text line decimal
    lab-refused p e = lab-read ∙ ap outcome_text e

    pub lab-answered : (ws : List ℤ) → read_text t ≡ words ws → lab_text t ≡ reply_to (problem_refusal ws) ws
    unfolding outcome_text
    lab-answered ws e = lab-read ∙ ap outcome_text e
