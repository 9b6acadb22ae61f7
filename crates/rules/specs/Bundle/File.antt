-- docs/RULES.md, "A day's file": an edition, a count k, k pairs (first word, length), and then the bodies, in the order
-- of the pairs, with no gap, and nothing behind the last. `file_refusal` judges the bytes of a file; what a file that
-- is
-- not refused holds is `bodies_in` of its words.
use Rattle.std.specs.Prelude.{Bool, not, ◌||◌, List, [], ◌∷◌, ◌++◌, ℕ, zero, suc, ◌+◌, ◌-◌, ◌*◌, ◌%◌, ltb, eqb, ℤ, pos}
use Rattle.std.specs.Prelude.{nat_abs, ◌+ℤ◌, length, take, drop, get_or}
use Rattle.whole.specs.Below.{some_below}
use Rattle.whole.specs.Numbers.{outside, eq_z, is_neg}
use Rattle.whole.specs.Sums.{sum}
use Rattle.whole.specs.Tables.{table}
use Rattle.rules.specs.Sizes.{first_bodies, first_rows, most_file_words, most_rows, second_bodies}
use Rattle.rules.specs.Problem.{word}
use Rattle.rules.specs.Refusal.{first}
use Rattle.rules.specs.Program.Bytes.{words_from}

-- ---- editions

-- what an edition allows: bodies in a file, rows in a body
pub record Edition : Type 0 where
  pub bodies : ℕ
  pub rows : ℕ

-- editions 1 and 2, a line each
unfoldable pub editions : List Edition
editions =
    record { bodies = first_bodies; rows = first_rows } ∷ record { bodies = second_bodies; rows = most_rows } ∷ []

abbrev no_edition : Edition
no_edition = record { bodies = 0; rows = 0 }

-- there is no edition 0
unfoldable pub edition : ℕ → Edition
edition zero = no_edition
edition (suc e) = get_or editions e no_edition

abbrev pub bodies_most : ℕ → ℕ
bodies_most e = (edition e).bodies

abbrev pub rows_in : ℕ → ℕ
rows_in e = (edition e).rows

-- ---- the words of a file

abbrev pub edition_in : List ℤ → ℕ
edition_in ws = nat_abs (word ws 0)

-- k, how many bodies there are
abbrev pub count_in : List ℤ → ℕ
count_in ws = nat_abs (word ws 1)

-- edition, count and k pairs: so the first body starts here
abbrev pub head_size : ℕ → ℕ
head_size k = 2 + 2 * k

abbrev pub pair_first : List ℤ → ℕ → ℤ
pair_first ws i = word ws (2 + 2 * i)

abbrev pub pair_length : List ℤ → ℕ → ℤ
pair_length ws i = word ws (3 + 2 * i)

-- where body i of k has to start: behind the pairs and the bodies before it. Whole numbers: nothing wraps
abbrev pub start_for : ℕ → (ℕ → ℤ) → ℕ → ℤ
start_for k lengths i = pos (head_size k) +ℤ sum i lengths

-- ---- refusals 30 to 35, by the count of bytes and the words that they are

-- bytes that are left over, fewer than two words, or too many
unfoldable pub bad_count : ℕ → Bool
bad_count count = not (eqb (count % 4) 0) || (ltb count 8 || ltb (4 * most_file_words) count)

unfoldable pub bad_edition : List ℤ → Bool
bad_edition ws = outside 1 (length editions) (word ws 0)

unfoldable pub bad_bodies : List ℤ → Bool
bad_bodies ws = outside 0 (bodies_most (edition_in ws)) (word ws 1)

unfoldable pub short_table : List ℤ → Bool
short_table ws = ltb (length ws) (head_size (count_in ws))

-- a negative length, or a first word that is not where the rule puts it
unfoldable pub bad_pair : List ℤ → ℕ → Bool
bad_pair ws i = is_neg (pair_length ws i) || not (eq_z (pair_first ws i) (start_for (count_in ws) (pair_length ws) i))

unfoldable pub bad_table : List ℤ → Bool
bad_table ws = some_below (count_in ws) (bad_pair ws)

-- the place behind the last body is not the end of the file
unfoldable pub bad_total : List ℤ → Bool
bad_total ws = not (eq_z (start_for (count_in ws) (pair_length ws) (count_in ws)) (pos (length ws)))

unfoldable pub file_tests : ℕ → List ℤ → List (Bool × ℕ)
file_tests count ws =
    (bad_count count, 30) ∷ (bad_edition ws, 31) ∷ (bad_bodies ws, 32) ∷ (short_table ws, 33)
    ∷ (bad_table ws, 34) ∷ (bad_total ws, 35) ∷ []

unfoldable pub file_refusal : List ℕ → ℕ
file_refusal bs = first (file_tests (length bs) (words_from bs))

-- ---- what a file that is not refused holds

unfoldable pub lengths_in : List ℤ → List ℤ
lengths_in ws = table (count_in ws) (pair_length ws)

-- of all bodies
unfoldable pub words_in : List ℤ → List ℤ
words_in ws = drop (head_size (count_in ws)) ws

unfoldable pub body_in : List ℤ → ℕ → List ℤ
body_in ws i = take (nat_abs (pair_length ws i)) (drop (nat_abs (pair_first ws i)) ws)

unfoldable pub bodies_in : List ℤ → List (List ℤ)
bodies_in ws = table (count_in ws) (body_in ws)

-- ---- the reader: refusal 36, last, where what is lent for the lengths or for the words is too short

unfoldable pub short_room : List ℤ → ℕ → ℕ → Bool
short_room ws length_room word_room = ltb length_room (count_in ws) || ltb word_room
    (length ws - head_size (count_in ws))

unfoldable pub read_refusal : List ℕ → ℕ → ℕ → ℕ
read_refusal bs length_room word_room =
    first (file_tests (length bs) (words_from bs) ++ ((short_room (words_from bs) length_room word_room, 36) ∷ []))

-- what is lent holds afterwards, by the reader's number: a refusal keeps it
unfoldable pub lengths_left : ℕ → List ℤ → List ℤ → List ℤ
lengths_left zero ws before = lengths_in ws ++ drop (count_in ws) before
lengths_left (suc k) ws before = before

unfoldable pub words_left : ℕ → List ℤ → List ℤ → List ℤ
words_left zero ws before = words_in ws ++ drop (length (words_in ws)) before
words_left (suc k) ws before = before

-- the edition and the count that the reader tells: none where it refuses
unfoldable pub edition_told : ℕ → List ℤ → ℕ
edition_told zero ws = edition_in ws
edition_told (suc k) ws = 0

unfoldable pub count_told : ℕ → List ℤ → ℕ
count_told zero ws = count_in ws
count_told (suc k) ws = 0
