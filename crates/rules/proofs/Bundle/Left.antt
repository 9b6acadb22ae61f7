-- What stands in what was lent, behind the reader and behind the writer of a file.
--   reader-kept                   a refusal keeps both, and tells no edition and no count
--   reader-told                   else they are told as the file has them
--   lengths-front, lengths-past   the lengths, then what stood behind them
--   bodies-front, bodies-past     the words of all bodies, then what stood behind them
--   writer-kept                   a refusal keeps every byte
--   file-front, file-past         the bytes of the file, then what stood behind them
use mathlib.Core.List.{List}
use mathlib.Core.Logic.{◌≢◌}
use mathlib.Core.Path.{ap, refl, sym, ◌∙◌, ◌≡◌}
use Prim.Native.Nat.{ℕ, suc, zero, ◌*◌, ◌+◌, ◌-◌}
use lib.IntN.{pos, ℤ}
use lib.ListN.{length, length-drop, take}
use Rattle.whole.proofs.Lists.Prefix.{laid-front, laid-past}
use Rattle.rules.proofs.Bundle.Bodies.{lengths-many}
use Rattle.rules.proofs.Bundle.Head.{file-length}
use Rattle.rules.proofs.Program.Words.{bytes-length}
use Rattle.rules.specs.Bundle.File.{count_in, count_told, edition_in, edition_told, head_size, lengths_in, lengths_left}
use Rattle.rules.specs.Bundle.File.{words_in, words_left}
use Rattle.rules.specs.Bundle.Writer.{file_left, file_size, file_words}
use Rattle.rules.specs.Problem.{word}
use Rattle.rules.specs.Program.Bytes.{byte, bytes_from}

-- ---- the reader, by its number

pub reader-kept : (k : ℕ) (ws lengths words : List ℤ) → k ≢ 0 → (lengths_left k ws lengths ≡ lengths)
    × (words_left k ws words ≡ words) × (edition_told k ws ≡ 0) × (count_told k ws ≡ 0)
unfolding lengths_left words_left edition_told count_told
reader-kept zero ws lengths words n = absurd (n refl)
reader-kept (suc k) ws lengths words n = (refl, refl, refl, refl)

module _ (ws before : List ℤ) where
  pub reader-told : (edition_told 0 ws ≡ edition_in ws) × (count_told 0 ws ≡ count_in ws)
  unfolding edition_told count_told
  reader-told = (refl, refl)

  pub lengths-front : take (count_in ws) (lengths_left 0 ws before) ≡ lengths_in ws
  unfolding lengths_left
  lengths-front = laid-front (lengths_in ws) before (count_in ws) (lengths-many ws)

  pub lengths-past : (i : ℕ) → word (lengths_left 0 ws before) (count_in ws + i) ≡ word before (count_in ws + i)
  unfolding lengths_left
  lengths-past i = laid-past (lengths_in ws) before (count_in ws) (lengths-many ws) i (pos 0)

  words_long : length (words_in ws) ≡ length ws - head_size (count_in ws)
  unfolding words_in
  words_long = length-drop (head_size (count_in ws)) ws

  pub bodies-front : take (length ws - head_size (count_in ws)) (words_left 0 ws before) ≡ words_in ws
  unfolding words_left
  bodies-front = ap (λ n. take n (words_left 0 ws before)) (sym words_long)
      ∙ laid-front (words_in ws) before (length (words_in ws)) refl

  pub bodies-past : (i : ℕ) → word (words_left 0 ws before) (length ws - head_size (count_in ws) + i)
      ≡ word before (length ws - head_size (count_in ws) + i)
  unfolding words_left
  bodies-past i = ap (λ n. word (words_left 0 ws before) (n + i)) (sym words_long)
      ∙ laid-past (words_in ws) before (length (words_in ws)) refl i (pos 0)
      ∙ ap (λ n. word before (n + i)) words_long

-- ---- the writer, by its number

pub writer-kept : (k e : ℕ) (lengths ws : List ℤ) (before : List ℕ) → k ≢ 0 → file_left k e lengths ws before ≡ before
unfolding file_left
writer-kept zero e lengths ws before n = absurd (n refl)
writer-kept (suc k) e lengths ws before n = refl

module _ (e : ℕ) (lengths ws : List ℤ) (before : List ℕ) where
  abbrev bytes : List ℕ
  bytes = bytes_from (file_words e lengths ws)

  bytes-long : length bytes ≡ 4 * file_size lengths ws
  bytes-long = bytes-length (file_words e lengths ws) ∙ ap (λ n. 4 * n) (file-length e lengths ws)

  pub file-front : take (4 * file_size lengths ws) (file_left 0 e lengths ws before) ≡ bytes_from
      (file_words e lengths ws)
  unfolding file_left
  file-front = laid-front bytes before (4 * file_size lengths ws) bytes-long

  pub file-past : (i : ℕ) → byte (file_left 0 e lengths ws before) (4 * file_size lengths ws + i)
      ≡ byte before (4 * file_size lengths ws + i)
  unfolding file_left
  file-past i = laid-past bytes before (4 * file_size lengths ws) bytes-long i 0
