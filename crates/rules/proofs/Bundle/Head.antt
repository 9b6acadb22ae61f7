-- The words of a file that was written, and that a file is the one that its own lengths and words make.
--   file-length, edition-word, count_word, first_word, length-word    what stands where in a written file
--   lengths_read, words-read    reading what was written
--   file-back                   writing what was read
use mathlib.Core.List.{List, ◌++◌}
use mathlib.Core.Path.{◌≡◌, refl, sym, ◌∙◌, ap}
use Prim.Native.Nat.{ℕ, zero, suc, ◌+◌, ◌-◌, ◌*◌, ◌/◌, ◌%◌, ◌≤◌, ◌<◌}
use native.Mathlib.Omega.{arith}
use native.Mathlib.Decide.{dec_lt, ℕ_discrete}
use borrow.Author.Tests.{eq-eqb, ne_eqb}
use lib.IntN.{ℤ, pos, ◌+ℤ◌}
use lib.ListN.{length, drop, length-append, length-drop, get_or-append}
use lib.Seq.{ext_get_or, get_or-append-add, get_or-drop, drop_at}
use Rattle.whole.specs.Tables.{table}
use Rattle.whole.proofs.Numbers.Sums.{sum_same}
use Rattle.whole.proofs.Lists.Tables.{table_at, table-length, table-all, table_same}
use Rattle.rules.specs.Problem.{word}
use Rattle.rules.specs.Bundle.File.{count_in, edition_in, pair_first, head_size, pair_length, lengths_in, start_for}
use Rattle.rules.specs.Bundle.File.{words_in}
use Rattle.rules.specs.Bundle.Writer.{contents, file_size, file_words, head_words}
use Rattle.rules.specs.Bundle.Facts.{FileAccepted}
use Rattle.rules.proofs.Bundle.Places.{count-own, edition-own}
use Rattle.rules.proofs.Bundle.Bodies.{length_at_lem, lengths-many}

-- ---- a written file

module _ (e : ℕ) (lengths ws : List ℤ) where
  abbrev k : ℕ
  k = length lengths

  abbrev file : List ℤ
  file = file_words e lengths ws

  head-length : length (head_words e lengths) ≡ head_size k
  unfolding head_words
  head-length = let h = table-length (2 * k) (contents lengths) in omega arith

  pub file-length : length file ≡ file_size lengths ws
  unfolding file_words
  file-length = length-append (head_words e lengths) ws ∙ ap (λ n. n + length ws) head-length

  -- a word of the head
  in_head : (i : ℕ) → i < head_size k → word file i ≡ word (head_words e lengths) i
  unfolding file_words
  in_head i h = get_or-append (head_words e lengths) ws (pos 0) i (rw head-length h)

  -- .. and one behind it
  pub behind-head : (i : ℕ) → word file (head_size k + i) ≡ word ws i
  unfolding file_words
  behind-head i = ap (λ n. word (head_words e lengths ++ ws) (n + i)) (sym head-length)
      ∙ get_or-append-add (head_words e lengths) ws i (pos 0)

  pub edition-word : word file 0 ≡ pos e
  unfolding head_words
  edition-word = in_head 0 (omega arith)

  pub count_word : word file 1 ≡ pos k
  unfolding head_words
  count_word = in_head 1 (omega arith)

  pub table-word : (p : ℕ) → p < 2 * k → word file (2 + p) ≡ contents lengths p
  unfolding head_words
  table-word p h =
      in_head (2 + p) (omega arith)
      ∙ ap (λ q. word (head_words e lengths) q) (let y : 2 + p ≡ suc (suc p) = omega arith in y)
      ∙ table_at (2 * k) (contents lengths) (pos 0) p h

  pub first_word : (i : ℕ) → i < k → pair_first file i ≡ start_for k (word lengths) i
  unfolding contents
  first_word i h = table-word (2 * i) (omega arith)
      ∙ rw (eq-eqb (2 * i % 2) 0 (omega arith))
      (ap (start_for k (word lengths)) (let z : 2 * i / 2 ≡ i = omega arith in z))

  pub length-word : (i : ℕ) → i < k → pair_length file i ≡ word lengths i
  unfolding contents
  length-word i h = ap (word file) (let z : 3 + 2 * i ≡ 2 + (2 * i + 1) = omega arith in z)
      ∙ table-word (2 * i + 1) (omega arith)
      ∙ rw (ne_eqb ((2 * i + 1) % 2) 0 (λ q. omega arith))
      (ap (word lengths) (let z : (2 * i + 1) / 2 ≡ i = omega arith in z))

  -- reading what was written

  count-read : count_in file ≡ k
  count-read = rw count_word refl

  pub lengths_read : lengths_in file ≡ lengths
  unfolding lengths_in
  lengths_read = ap (λ n. table n (pair_length file)) count-read
      ∙ table_same k (pair_length file) (word lengths) length-word ∙ table-all lengths (pos 0)

  pub words-read : words_in file ≡ ws
  unfolding words_in file_words
  words-read = ap (λ n. drop (head_size n) file) count-read ∙ drop_at (head_words e lengths) ws (head_size k)
      head-length

-- ---- writing what was read

module _ {bs : List ℕ} {ws : List ℤ} (A : FileAccepted bs ws) where
  abbrev n : ℕ
  n = count_in ws

  abbrev again : List ℤ
  again = file_words (edition_in ws) (lengths_in ws) (words_in ws)

  contents-at : (p : ℕ) → p < 2 * n → contents (lengths_in ws) p ≡ word ws (2 + p)
  unfolding contents
  contents-at p h = go (ℕ_discrete (p % 2) 0)
    where
      go : Dec (p % 2 ≡ 0) → contents (lengths_in ws) p ≡ word ws (2 + p)
      go (yes q) = rw (eq-eqb (p % 2) 0 q, lengths-many)
          (ap (λ s. pos (head_size n) +ℤ s) (sum_same (p / 2) (word (lengths_in ws)) (pair_length ws)
          (λ i l. length_at_lem ws i (omega arith)))
          ∙ sym (A.starts (p / 2) (omega arith)) ∙ ap (word ws) (let z : 2 + 2 * (p / 2) ≡ 2 + p = omega arith in z))
      go (no q) = rw (ne_eqb (p % 2) 0 q) (length_at_lem ws (p / 2) (omega arith)
          ∙ ap (word ws) (let z : 3 + 2 * (p / 2) ≡ 2 + p = omega arith in z))

  head-again : (i : ℕ) → i < head_size n → word again i ≡ word ws i
  head-again zero h = edition-word (edition_in ws) (lengths_in ws) (words_in ws) ∙ sym (edition-own A)
  head-again (suc zero) h =
      count_word (edition_in ws) (lengths_in ws) (words_in ws) ∙ ap pos (lengths-many ws) ∙ sym (count-own A)
  head-again (suc (suc p)) h =
      ap (word again) (let z : suc (suc p) ≡ 2 + p = omega arith in z)
      ∙ table-word (edition_in ws) (lengths_in ws) (words_in ws) p (omega (arith, lengths-many ws))
      ∙ contents-at p (omega arith)
      ∙ ap (word ws) (let z : 2 + p ≡ suc (suc p) = omega arith in z)

  behind-again : (i : ℕ) → head_size n ≤ i → word again i ≡ word ws i
  unfolding words_in
  behind-again i h =
      let q = i - head_size n in
      ap (word again) (let z : i ≡ head_size (length (lengths_in ws)) + q = omega (arith, lengths-many ws) in z)
      ∙ behind-head (edition_in ws) (lengths_in ws) (words_in ws) q
      ∙ get_or-drop (head_size n) ws q (pos 0)
      ∙ ap (word ws) (let z : head_size n + q ≡ i = omega arith in z)

  pub words-many : length (words_in ws) ≡ length ws - head_size n
  unfolding words_in
  words-many = length-drop (head_size n) ws

  pub size_back : file_size (lengths_in ws) (words_in ws) ≡ length ws
  size_back = omega (arith, A.long, lengths-many ws, words-many)

  pub file-back : file_words (edition_in ws) (lengths_in ws) (words_in ws) ≡ ws
  file-back = ext_get_or (pos 0) again ws
      (file-length (edition_in ws) (lengths_in ws) (words_in ws) ∙ size_back)
      (λ i h. elim (dec_lt i (head_size n)) [ yes l ↦ head-again i l | no l ↦ behind-again i (omega arith) ])
