-- The head of a file, filled word by word, and the place of the next body.
--   head_word                       word p of the head
--   head-begun, head-kept, head_more, head_done    two words first, with what is behind them; a pair more; all of it
--   word_first, word_size          what stands where in a pair
--   place-few                      every place is within a file
--   front-is, front-long           the part of the front that is the head
--   head-length, file-put          head and words as bytes, one behind the other, are the file
use mathlib.Core.List.{List, [], ◌++◌}
use mathlib.Core.List.{append-nil}
use mathlib.Core.Path.{◌≡◌, ap, ap₂, sym, ◌∙◌}
use Prim.Native.Nat.{ℕ, ◌+◌, ◌*◌, ◌≤◌, ◌<◌}
use native.Mathlib.Omega.{arith}
use lib.Dec.{leb→le}
use lib.IntN.{ℤ, pos, ◌+ℤ◌}
use lib.ListN.{drop, length, set, take}
use lib.Seq.{drop-set-lt, sets, take_at}
use Rattle.whole.specs.Tables.{table, table_from}
use Rattle.whole.proofs.Lists.Prefix.{set-table}
use Rattle.whole.proofs.Lists.Stores.{sets-front, sets_then}
use Rattle.whole.proofs.Lists.Tables.{table-all}
use Rattle.rules.specs.Problem.{word}
use Rattle.rules.specs.Sizes.{most_file_words}
use Rattle.rules.specs.Bundle.File.{head_size}
use Rattle.rules.specs.Bundle.Writer.{file_left, file_size, file_words, head_words}
use Rattle.rules.specs.Program.Bytes.{bytes_from}
use Rattle.rules.proofs.Program.Words.{bytes-length, bytes-then}
use Rattle.rules.proofs.Bundle.Head.{count_word, edition-word, file-length, first_word, length-word}
use Rattle.rules.proofs.Bundle.Places.{count_before, counts-rise, sum-counts}
use Rattle.bundle.specs.Lengths.{Counts, Fillable}

module _ (e : ℕ) (lengths : List ℤ) where
  abbrev k : ℕ
  k = length lengths

  abbrev pub head_word : ℕ → ℤ
  head_word p = word (file_words e lengths []) p

  -- the first words of the head over other words
  abbrev pub head_over : ℕ → List ℤ → List ℤ
  head_over p before = table p head_word ++ drop p before

  word-edition : head_word 0 ≡ pos e
  word-edition = edition-word e lengths []

  word_count : head_word 1 ≡ pos k
  word_count = count_word e lengths []

  pub word_size : (i : ℕ) → i < k → head_word (3 + 2 * i) ≡ word lengths i
  word_size i h = length-word e lengths [] i h

  module _ (before : List ℤ) where
    pub head-begun : 2 ≤ length before → (a b : ℤ) → a ≡ pos e → b ≡ pos k →
        set (set before 0 a) 1 b ≡ head_over 2 before
    unfolding table_from
    head-begun h a b p q =
        ap₂ (λ y z. set (set before 0 y) 1 z) (p ∙ sym word-edition) (q ∙ sym word_count)
        ∙ ap (λ l. set l 1 (head_word 1)) (set-table head_word (pos 0) before 0 (omega arith))
        ∙ set-table head_word (pos 0) before 1 (omega arith)

    -- later words are as they were
    pub head-kept : (p : ℕ) → 2 ≤ p → (a b : ℤ) → drop p (set (set before 0 a) 1 b) ≡ drop p before
    head-kept p h a b = drop-set-lt p (set before 0 a) 1 b (omega arith) ∙ drop-set-lt p before 0 a (omega arith)

    pub head_more : (i : ℕ) → 3 + 2 * i < length before → (a b : ℤ) → a ≡ head_word (2 + 2 * i) →
        b ≡ head_word (3 + 2 * i) →
        set (set (head_over (2 + 2 * i) before) (2 + 2 * i) a) (3 + 2 * i) b ≡ head_over (2 + 2 * (i + 1)) before
    head_more i h a b p q =
        let p_2 : 3 + 2 * i ≡ 2 + 2 * i + 1 = omega arith in
        ap₂ (λ y z. set (set (head_over (2 + 2 * i) before) (2 + 2 * i) y) (3 + 2 * i) z) p q
        ∙ ap (λ l. set l (3 + 2 * i) (head_word (3 + 2 * i)))
        (set-table head_word (pos 0) before (2 + 2 * i) (omega arith))
        ∙ ap₂ (λ m n. set (head_over (2 + 2 * i + 1) before) m (head_word n)) p_2 p_2
        ∙ set-table head_word (pos 0) before (2 + 2 * i + 1) (omega arith)
        ∙ ap (λ n. head_over n before) (let z : 2 + 2 * i + 1 + 1 ≡ 2 + 2 * (i + 1) = omega arith in z)

    pub head_done : head_over (head_size k) before ≡ file_words e lengths [] ++ drop (head_size k) before
    head_done = ap (λ l. l ++ drop (head_size k) before)
        (ap (λ n. table n head_word) (let z : head_size k ≡ length (file_words e lengths []) =
        omega (arith, file-length e lengths []) in z) ∙ table-all (file_words e lengths []) (pos 0))

  module _ (C : Counts lengths) where
    pub word_first : (i : ℕ) → i < k → head_word (2 + 2 * i) ≡ pos (head_size k + count_before i (word lengths))
    word_first i h = first_word e lengths [] i h
        ∙ ap (λ z. pos (head_size k) +ℤ z) (sum-counts k (word lengths) C.least i (omega arith))

-- ---- the place of a body

module _ (lengths : List ℤ) (C : Fillable lengths) where
  total-few : count_before (length lengths) (word lengths) ≤ most_file_words
  total-few = leb→le (count_before (length lengths) (word lengths)) most_file_words
      (rw (sum-counts (length lengths) (word lengths) C.counts.least (length lengths) (omega arith))
      at C.total).le

  pub place-few : (i : ℕ) → i ≤ length lengths → count_before i (word lengths) ≤ most_file_words
  place-few i h = omega (arith, total-few, counts-rise (length lengths) (word lengths) i h)

-- ---- the whole file, as bytes: the head, and the words behind it

head-then : (e : ℕ) (lengths ws : List ℤ) → file_words e lengths [] ++ ws ≡ file_words e lengths ws
unfolding file_words
head-then e lengths ws = ap (λ l. l ++ ws) (append-nil (head_words e lengths))

head-length : (e : ℕ) (lengths : List ℤ) → length (file_words e lengths []) ≡ head_size (length lengths)
head-length e lengths = omega (arith, file-length e lengths [])

module _ (e : ℕ) (lengths front rest : List ℤ) (size : ℕ) (size-is : size ≡ head_size (length lengths))
    (content : front ≡ file_words e lengths [] ++ rest) where
  pub front-is : take size front ≡ file_words e lengths []
  front-is = ap (take size) content ∙ take_at (file_words e lengths []) rest size (head-length e lengths ∙ sym size-is)

  pub front-long : length (take size front) ≡ size
  front-long = ap length front-is ∙ head-length e lengths ∙ sym size-is

pub file-put : (e : ℕ) (lengths ws : List ℤ) (file : List ℕ) → 4 * file_size lengths ws ≤ length file → (r : ℕ) →
    r ≡ head_size (length lengths) →
    sets (sets file 0 (bytes_from (file_words e lengths []))) (4 * r) (bytes_from ws) ≡ file_left 0 e lengths ws file
unfolding file_left
file-put e lengths ws file h r q =
    ap (λ n. sets (sets file 0 (bytes_from head)) n (bytes_from ws))
    (let z : 4 * r ≡ 0 + length (bytes_from head) = omega (arith, bytes-length head, head-length e lengths) in z)
    ∙ sym (sets_then (bytes_from head) (bytes_from ws) file 0)
    ∙ ap (sets file 0) (sym (bytes-then head ws) ∙ ap bytes_from (head-then e lengths ws))
    ∙ sets-front (bytes_from all) file (omega (arith, long))
    ∙ ap (λ n. bytes_from all ++ drop n file) long
  where
    head : List ℤ
    head = file_words e lengths []

    all : List ℤ
    all = file_words e lengths ws

    long : length (bytes_from all) ≡ 4 * file_size lengths ws
    long = omega (arith, bytes-length all, file-length e lengths ws)
