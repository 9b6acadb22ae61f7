-- Both round trips, over bytes.
--   read-written    what was written without a refusal is read again: the same edition, lengths and words
--   write_read      what was read without a refusal is written again: the same bytes
-- Lengths and words are of 32 bits, and a byte is below 256.
use mathlib.Core.List.{List}
use mathlib.Core.Path.{◌≡◌, ap, ap₂, subst, sym, ◌∙◌}
use Prim.Native.Nat.{ℕ, zero, suc, ◌+◌, ◌-◌, ◌*◌, ◌/◌, ◌%◌, ◌≤◌, ◌<◌}
use native.Mathlib.Omega.{arith}
use native.Mathlib.Decide.{dec_lt, ℕ_discrete}
use borrow.Author.Tests.{eq-eqb, ne_eqb}
use lib.Dec.{le→leb}
use lib.IntN.{ℤ, pos, nat_abs, ◌+ℤ◌}
use lib.ListN.{length}
use lib.Signed.{◌≤ℤ◌}
use mir.Syntax.{w32}
use mir.Val.{SFits}
use Rattle.whole.specs.Sums.{sum}
use Rattle.whole.proofs.Numbers.Sizes.{fits-by}
use Rattle.whole.proofs.Numbers.Sums.{sum_same}
use Rattle.whole.proofs.Numbers.Tests.{above, under-size}
use Rattle.rules.specs.Problem.{word}
use Rattle.rules.specs.Sizes.{most_file_words}
use Rattle.rules.specs.Program.Bytes.{byte, bytes_from, words_from}
use Rattle.rules.specs.Bundle.File.{bodies_most, count_in, edition_in, editions, file_refusal, head_size}
use Rattle.rules.specs.Bundle.File.{pair_length, lengths_in, start_for, words_in}
use Rattle.rules.specs.Bundle.Writer.{contents, file_words, writer_refusal}
use Rattle.rules.specs.Bundle.Facts.{FileAccepted, ReadsAs, WriterAccepted, WritesAs}
use Rattle.rules.proofs.Program.Words.{bytes_back, bytes-length, words_back, words-length}
use Rattle.rules.proofs.Bundle.Exactly.{file-accepted-exactly, writer-accepted-exactly}
use Rattle.rules.proofs.Bundle.Places.{bodies-few, count_before, counts-rise, editions-few, sum-counts}
use Rattle.rules.proofs.Bundle.Bodies.{length_at_lem, lengths-many}
use Rattle.rules.proofs.Bundle.Head.{behind-head, count_word, edition-word, file-back, file-length, first_word}
use Rattle.rules.proofs.Bundle.Head.{length-word, lengths_read, size_back, table-word, words-many, words-read}

count-le : {a b : ℕ} → a ≤ b → pos a ≤ℤ pos b
count-le {a} {b} h = record { le = le→leb a b h }

count_fits : (n : ℕ) → n ≤ most_file_words → SFits w32 (pos n)
count_fits n h = fits-by {n = most_file_words} (record { within = h }) tt

-- ---- reading what was written

module _ (e : ℕ) (lengths ws : List ℤ) where
  abbrev file : List ℤ
  file = file_words e lengths ws

  abbrev k : ℕ
  k = length lengths

  module _ {room : ℕ} (A : WriterAccepted e lengths ws room) where
    start_is : (i : ℕ) → i ≤ k → start_for k (word lengths) i ≡ pos (head_size k + count_before i (word lengths))
    start_is i h = ap (λ z. pos (head_size k) +ℤ z) (sum-counts k (word lengths) A.lengths-least i h)

    all-counts : count_before k (word lengths) ≡ length ws
    all-counts = ap nat_abs (sym (sum-counts k (word lengths) A.lengths-least k (omega arith)) ∙ A.total)

    start-few : (i : ℕ) → i ≤ k → head_size k + count_before i (word lengths) ≤ most_file_words
    start-few i h = omega (arith, A.few, all-counts, counts-rise k (word lengths) i h)

    -- lengths and words of 32 bits make a file of 32 bits
    module _ (fit-lengths : (i : ℕ) → SFits w32 (word lengths i)) (Fit-words : (i : ℕ) → SFits w32 (word ws i)) where
      contents-fit : (p : ℕ) → p < 2 * k → SFits w32 (contents lengths p)
      unfolding contents
      contents-fit p h = go (ℕ_discrete (p % 2) 0)
        where
          go : Dec (p % 2 ≡ 0) → SFits w32 (contents lengths p)
          go (yes q) = rw (eq-eqb (p % 2) 0 q, start_is (p / 2) (omega arith))
              (count_fits (head_size k + count_before (p / 2) (word lengths)) (start-few (p / 2) (omega arith)))
          go (no q) = rw (ne_eqb (p % 2) 0 q) (fit-lengths (p / 2))

      file-fits : (i : ℕ) → SFits w32 (word file i)
      file-fits zero = rw (edition-word e lengths ws) (count_fits e (omega (arith, A.edition-most, editions-few)))
      file-fits (suc zero) =
          rw (count_word e lengths ws) (count_fits k (omega (arith, A.count_most, bodies-few e)))
      file-fits (suc (suc p)) = elim (dec_lt p (2 * k)) [
        | yes l ↦ subst (SFits w32) (sym (table-word e lengths ws p l)
            ∙ ap (word file) (let z : 2 + p ≡ suc (suc p) = omega arith in z)) (contents-fit p l)
        | no l ↦ subst (SFits w32) (sym (behind-head e lengths ws (p - 2 * k))
            ∙ ap (word file) (let z : head_size k + (p - 2 * k) ≡ suc (suc p) = omega arith in z))
            (Fit-words (p - 2 * k))
      ]

      back : words_from (bytes_from file) ≡ file
      back = words_back file file-fits

    count-is : count_in file ≡ k
    count-is = ap nat_abs (count_word e lengths ws)

    edition-is : edition_in file ≡ e
    edition-is = ap nat_abs (edition-word e lengths ws)

    start-same : (i : ℕ) → i ≤ k → start_for (count_in file) (pair_length file) i ≡ start_for k (word lengths) i
    start-same i h = ap₂ (λ n s. pos (head_size n) +ℤ s) count-is
        (sum_same i (pair_length file) (word lengths) (λ j l. length-word e lengths ws j (omega arith)))

    file-accepted : FileAccepted (bytes_from file) file
    file-accepted = record {
      whole = omega (arith, bytes-length file);
      enough = omega (arith, bytes-length file, file-length e lengths ws);
      few = omega (arith, bytes-length file, file-length e lengths ws, A.few);
      edition-least = rw (edition-word e lengths ws) (count-le A.edition-least);
      edition-most = rw (edition-word e lengths ws) (count-le A.edition-most);
      count-least = rw (count_word e lengths ws) (count-le (omega arith));
      count_most = rw (count_word e lengths ws, edition-is) (count-le A.count_most);
      long = omega (arith, count-is, file-length e lengths ws);
      lengths = λ i h. let l : i < k = omega (arith, count-is) in
          rw (length-word e lengths ws i l) (A.lengths-least i l);
      starts = λ i h. let l : i < k = omega (arith, count-is) in
          first_word e lengths ws i l ∙ sym (start-same i (omega arith));
      total = ap (start_for (count_in file) (pair_length file)) count-is ∙ start-same k (omega arith)
          ∙ start_is k (omega arith) ∙ ap pos (omega (arith, all-counts, file-length e lengths ws));
    }

  pub read-written : (room : ℕ) → writer_refusal e lengths ws room ≡ 0 →
      ((i : ℕ) → SFits w32 (word lengths i)) → ((i : ℕ) → SFits w32 (word ws i)) →
      ReadsAs (bytes_from (file_words e lengths ws)) e lengths ws
  read-written room q fit-lengths Fit-words = record {
    fine = (file-accepted-exactly (bytes_from file)).1 (subst (FileAccepted (bytes_from file)) (sym W)
        (file-accepted A));
    edition-is = ap edition_in W ∙ edition-is A;
    lengths-are = ap lengths_in W ∙ lengths_read e lengths ws;
    words_are = ap words_in W ∙ words-read e lengths ws;
  }
    where
      A : WriterAccepted e lengths ws room
      A = (writer-accepted-exactly e lengths ws room).0 q

      W : words_from (bytes_from file) ≡ file
      W = back A fit-lengths Fit-words

-- ---- writing what was read

module _ (bs : List ℕ) (small : (i : ℕ) → byte bs i < 256) (fine : file_refusal bs ≡ 0) where
  abbrev words : List ℤ
  words = words_from bs

  accepted : FileAccepted bs words
  accepted = (file-accepted-exactly bs).0 fine

  many : length (lengths_in words) ≡ count_in words
  many = lengths-many words

  writer-accepted : WriterAccepted (edition_in words) (lengths_in words) (words_in words) (length bs)
  writer-accepted = record {
    edition-least = above 1 (word words 0) accepted.edition-least;
    edition-most = under-size (length editions) 1 (word words 0) accepted.edition-least accepted.edition-most;
    count_most = omega (
      arith,
      many,
      under-size (bodies_most (edition_in words)) 0 (word words 1)
          accepted.count-least accepted.count_most,
    );
    lengths-least = λ i h. let l : i < count_in words = omega (arith, many) in
        rw (length_at_lem words i l) (accepted.lengths i l);
    total = ap (λ n. sum n (word (lengths_in words))) many
        ∙ sum_same (count_in words) (word (lengths_in words)) (pair_length words) (length_at_lem words) ∙ summed;
    few = omega (arith, size_back accepted, words-length bs, accepted.few);
    roomy = omega (arith, size_back accepted, words-length bs);
  }
    where
      size : sum (count_in words) (pair_length words) ≡ pos (count_before (count_in words) (pair_length words))
      size = sum-counts (count_in words) (pair_length words) accepted.lengths (count_in words) (omega arith)

      end : head_size (count_in words) + count_before (count_in words) (pair_length words) ≡ length words
      end = ap nat_abs (sym (ap (λ z. pos (head_size (count_in words)) +ℤ z) size) ∙ accepted.total)

      summed : sum (count_in words) (pair_length words) ≡ pos (length (words_in words))
      summed = size ∙ ap pos (omega (arith, end, words-many accepted))

  pub write_read : WritesAs (edition_in words) (lengths_in words) (words_in words) bs
  write_read = record {
    fine = (writer-accepted-exactly (edition_in words) (lengths_in words) (words_in words) (length bs)).1
        writer-accepted;
    bytes-are = ap bytes_from (file-back accepted) ∙ bytes_back bs accepted.whole small;
  }
