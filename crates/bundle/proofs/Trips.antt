-- The round trip over the functions' promises alone.
--   written_read    what `write` left at the front of its slice is read again: the same edition, lengths and words
use mathlib.Core.List.{List}
use mathlib.Core.Path.{◌≡◌, ap, subst, sym, ◌∙◌}
use Prim.Native.Nat.{ℕ, ◌*◌}
use native.Mathlib.Omega.{arith}
use lib.IntN.{ℤ}
use lib.ListN.{drop, length, take}
use lib.Seq.{take_at}
use mir.Syntax.{w32}
use mir.Val.{SFits}
use Rattle.rules.specs.Problem.{word}
use Rattle.rules.specs.Program.Bytes.{bytes_from}
use Rattle.rules.specs.Bundle.Writer.{file_left, file_size, file_words, writer_refusal}
use Rattle.rules.specs.Bundle.Facts.{ReadsAs}
use Rattle.rules.proofs.Program.Words.{bytes-length}
use Rattle.rules.proofs.Bundle.Head.{file-length}
use Rattle.rules.proofs.Bundle.Trips.{read-written}

-- `number` and `after` are what the writer promises of `before`
pub written_read : (e : ℕ) (lengths ws : List ℤ) (before after : List ℕ) (number : ℕ) →
    number ≡ writer_refusal e lengths ws (length before) → after ≡ file_left number e lengths ws before → number ≡ 0 →
    ((i : ℕ) → SFits w32 (word lengths i)) → ((i : ℕ) → SFits w32 (word ws i)) →
    ReadsAs (take (4 * file_size lengths ws) after) e lengths ws
unfolding file_left
written_read e lengths ws before after number n o z fit-lengths Fit-words =
    subst (λ bs. ReadsAs bs e lengths ws) (sym front)
    (read-written e lengths ws (length before) (sym n ∙ z) fit-lengths Fit-words)
  where
    front : take (4 * file_size lengths ws) after ≡ bytes_from (file_words e lengths ws)
    front = ap (take (4 * file_size lengths ws)) (o ∙ ap (λ k. file_left k e lengths ws before) z)
        ∙ take_at (bytes_from (file_words e lengths ws)) (drop (4 * file_size lengths ws) before)
        (4 * file_size lengths ws)
        (omega (arith, bytes-length (file_words e lengths ws), file-length e lengths ws))
