-- docs/RULES.md, "A day's file", the tables of refusals, line by line: each test of specs/Bundle is true exactly where
-- its line of specs/Bundle/Facts applies, and the refusal is the first that applies.
--   file-refusal-exactly      a file's refusal is k exactly where no earlier line's meaning holds and line k's does,
--                             and 0 where none does
--   read-refusal-exactly, writer-refusal-exactly    the same of the reader, with 36, and of the writer
--   file-accepted-exactly     it is 0 exactly for an accepted file
--   read-accepted-exactly, writer-accepted-exactly  .. with room enough; .. for what the writer accepts
--   file-numbered             the numbers of refusals 30 to 35
use mathlib.Core.List.{List, [], ◌++◌, ◌∷◌}
use mathlib.Core.Logic.{◌↔◌}
use mathlib.Core.Path.{◌≡◌}
use Prim.Native.Nat.{ℕ, ◌*◌, ◌-◌, ◌%◌, ◌≤◌}
use native.Mathlib.Omega.{arith}
use lib.IntN.{pos, ℤ}
use lib.ListN.{length}
use Rattle.whole.proofs.Tells.{tells-eq, tells-eq_z, tells-lt, tells-lt_z, tells-not, tells-or, tells-outside}
use Rattle.whole.proofs.Tells.{tells-some}
use Rattle.whole.specs.Sums.{sum}
use Rattle.rules.specs.Problem.{word}
use Rattle.rules.specs.Sizes.{most_file_words}
use Rattle.rules.specs.Facts.Refusal.{AllFine, First, Tests}
use Rattle.rules.specs.Bundle.Facts.{FileAccepted, WriterAccepted, bodies_line, bytes_line, edition_line, file_table}
use Rattle.rules.specs.Bundle.Facts.{pair_line, read_line, read_table, table_line, total_line, writer_table}
use Rattle.rules.specs.Program.Bytes.{words_from}
use Rattle.rules.specs.Bundle.File.{bad_bodies, bad_count, bad_edition, bad_pair, bad_table, bad_total, bodies_most}
use Rattle.rules.specs.Bundle.File.{count_in, edition_in, editions, file_refusal, file_tests, pair_first, head_size}
use Rattle.rules.specs.Bundle.File.{pair_length, short_room, read_refusal, short_table, start_for}
use Rattle.rules.specs.Bundle.Writer.{bad_lengths, bad_sum, file_room, file_size, no_such_edition, too_long, too_many}
use Rattle.rules.specs.Bundle.Writer.{writer_refusal, writer_tests}
use Rattle.rules.proofs.Refusal.First.{Tested, Upto, first-exactly, first_fine, no_test, tested, tested-then}

-- ---- each test, where it applies and where it does not

pub bytes-tells : (count : ℕ) → Tests (bad_count count) (bytes_line count)
unfolding bad_count
bytes-tells count =
    tells-or (tells-not (tells-eq (count % 4) 0)) (tells-or (tells-lt count 8) (tells-lt (4 * most_file_words) count))

module _ (ws : List ℤ) where
  edition-tells : Tests (bad_edition ws) (edition_line ws)
  unfolding bad_edition
  edition-tells = tells-outside 1 (length editions) (word ws 0)

  bodies-tells : Tests (bad_bodies ws) (bodies_line ws)
  unfolding bad_bodies
  bodies-tells = tells-outside 0 (bodies_most (edition_in ws)) (word ws 1)

  pub table-tells : Tests (short_table ws) (table_line ws)
  unfolding short_table
  table-tells = tells-lt (length ws) (head_size (count_in ws))

  pairs-tell : Tests (bad_table ws) (pair_line ws)
  unfolding bad_table bad_pair
  pairs-tell = tells-some (count_in ws) _ (λ i h.
      tells-or (tells-lt_z (pair_length ws i) (pos 0))
      (tells-not (tells-eq_z (pair_first ws i) (start_for (count_in ws) (pair_length ws) i))))

  total-tells : Tests (bad_total ws) (total_line ws)
  unfolding bad_total
  total-tells = tells-not (tells-eq_z (start_for (count_in ws) (pair_length ws) (count_in ws)) (pos (length ws)))

  pub read-room-tells : (length_room word_room : ℕ) →
      Tests (short_room ws length_room word_room) (read_line ws length_room word_room)
  unfolding short_room
  read-room-tells length_room word_room =
      tells-or (tells-lt length_room (count_in ws)) (tells-lt word_room (length ws - head_size (count_in ws)))

-- ---- the tables

file-tested : (count : ℕ) (ws : List ℤ) → Tested (file_tests count ws) (file_table count ws)
unfolding file_tests
file-tested count ws =
    tested (bytes-tells count) (tested (edition-tells ws) (tested (bodies-tells ws) (tested (table-tells ws)
    (tested (pairs-tell ws) (tested (total-tells ws) no_test)))))

read-tested : (count : ℕ) (ws : List ℤ) (length_room word_room : ℕ) →
    Tested (file_tests count ws ++ ((short_room ws length_room word_room, 36) ∷ []))
    (read_table count ws length_room word_room)
read-tested count ws length_room word_room =
    tested-then (file-tested count ws) (tested (read-room-tells ws length_room word_room) no_test)

writer-tested : (e : ℕ) (lengths ws : List ℤ) (room : ℕ) →
    Tested (writer_tests e lengths ws room) (writer_table e lengths ws room)
unfolding writer_tests no_such_edition too_many bad_lengths bad_sum too_long file_room
writer-tested e lengths ws room =
    tested (tells-or (tells-lt e 1) (tells-lt (length editions) e))
    (tested (tells-lt (bodies_most e) (length lengths))
    (tested (tells-some (length lengths) _ (λ i h. tells-lt_z (word lengths i) (pos 0)))
    (tested (tells-not (tells-eq_z (sum (length lengths) (word lengths)) (pos (length ws))))
    (tested (tells-lt most_file_words (file_size lengths ws))
    (tested (tells-lt room (4 * file_size lengths ws)) no_test)))))

pub file-numbered : (count : ℕ) (ws : List ℤ) → Upto 35 (file_tests count ws)
unfolding file_tests
file-numbered count ws = omega arith

-- ---- exactly

pub file-refusal-exactly : (bs : List ℕ) (k : ℕ) →
    (file_refusal bs ≡ k) ↔ First (file_table (length bs) (words_from bs)) k
unfolding file_refusal
file-refusal-exactly bs k = first-exactly (file-tested (length bs) (words_from bs)) k

pub read-refusal-exactly : (bs : List ℕ) (length_room word_room k : ℕ) →
    (read_refusal bs length_room word_room ≡ k) ↔ First (read_table (length bs) (words_from bs) length_room word_room) k
unfolding read_refusal
read-refusal-exactly bs length_room word_room k =
    first-exactly (read-tested (length bs) (words_from bs) length_room word_room) k

pub writer-refusal-exactly : (e : ℕ) (lengths ws : List ℤ) (room k : ℕ) →
    (writer_refusal e lengths ws room ≡ k) ↔ First (writer_table e lengths ws room) k
unfolding writer_refusal
writer-refusal-exactly e lengths ws room k = first-exactly (writer-tested e lengths ws room) k

-- ---- what the refusals leave

module _ (bs : List ℕ) where
  abbrev words : List ℤ
  words = words_from bs

  abbrev FileFine : Type 0
  FileFine = AllFine (file_table (length bs) words)

  fine-accepted : FileFine → FileAccepted bs words
  fine-accepted (count, (edition, (bodies, (table, (pairs, (total, end)))))) = record {
    whole = count.0;
    enough = count.1.0;
    few = count.1.1;
    edition-least = edition.0;
    edition-most = edition.1;
    count-least = bodies.0;
    count_most = bodies.1;
    long = table;
    lengths = λ i h. (pairs i h).0;
    starts = λ i h. (pairs i h).1;
    total = total;
  }

  accepted-fine : FileAccepted bs words → FileFine
  accepted-fine A = (
    (A.whole, (A.enough, A.few)),
    (
      (A.edition-least, A.edition-most),
      (
        (A.count-least, A.count_most),
        (A.long, ((λ i h. (A.lengths i h, A.starts i h)), (A.total, tt))),
      ),
    ),
  )

  pub file-accepted-exactly : (file_refusal bs ≡ 0) ↔ FileAccepted bs words
  unfolding file_refusal
  file-accepted-exactly = let r = first_fine (file-tested (length bs) words) (omega arith) in
      (λ e. fine-accepted (r.0 e), λ A. r.1 (accepted-fine A))

  pub read-accepted-exactly : (length_room word_room : ℕ) → (read_refusal bs length_room word_room ≡ 0)
      ↔ (FileAccepted bs words × ((count_in words ≤ length_room) ×
      (length words - head_size (count_in words) ≤ word_room)))
  unfolding read_refusal
  read-accepted-exactly length_room word_room =
      let r = first_fine (read-tested (length bs) words length_room word_room) (omega arith) in
      (λ e. split (r.0 e), λ A. r.1 (join (accepted-fine A.0) A.1))
    where
      split : AllFine (read_table (length bs) words length_room word_room) →
          FileAccepted bs words × ((count_in words ≤ length_room) ×
          (length words - head_size (count_in words) ≤ word_room))
      split (count, (edition, (bodies, (table, (pairs, (total, (room, end))))))) =
          (fine-accepted (count, (edition, (bodies, (table, (pairs, (total, tt)))))), room)

      join : FileFine → (count_in words ≤ length_room) × (length words - head_size (count_in words) ≤ word_room) →
          AllFine (read_table (length bs) words length_room word_room)
      join (count, (edition, (bodies, (table, (pairs, (total, end)))))) room =
          (count, (edition, (bodies, (table, (pairs, (total, (room, tt)))))))

pub writer-accepted-exactly : (e : ℕ) (lengths ws : List ℤ) (room : ℕ) →
    (writer_refusal e lengths ws room ≡ 0) ↔ WriterAccepted e lengths ws room
unfolding writer_refusal
writer-accepted-exactly e lengths ws room =
    let r = first_fine (writer-tested e lengths ws room) (omega arith) in
    (λ q. accepted (r.0 q), λ A. r.1 (fine A))
  where
    accepted : AllFine (writer_table e lengths ws room) → WriterAccepted e lengths ws room
    accepted (known, (many, (least, (total, (few, (roomy, end)))))) = record {
      edition-least = known.0;
      edition-most = known.1;
      count_most = many;
      lengths-least = least;
      total = total;
      few = few;
      roomy = roomy;
    }

    fine : WriterAccepted e lengths ws room → AllFine (writer_table e lengths ws room)
    fine A = (
      (A.edition-least, A.edition-most),
      (A.count_most, (A.lengths-least, (A.total, (A.few, (A.roomy, tt))))),
    )
