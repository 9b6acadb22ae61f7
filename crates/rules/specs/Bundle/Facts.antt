-- docs/RULES.md, "A day's file": the tables of refusals in plain words, line by line, and what they leave.
--   file_table, read_table, writer_table    the lines of the page
--   FileAccepted                         a file that is not refused
--   WriterAccepted                       what is written without a refusal
--   ReadsAs, WritesAs                    the two round trips
-- specs/Bundle has the tests that compute; they give what these lines say (`file-refusal-exactly`).
use Rattle.std.specs.Prelude.{List, [], ◌++◌, ◌∷◌, ◌≢◌, ◌⊎◌, ◌≡◌, ℕ, ◌*◌, ◌-◌, ◌%◌, ◌<◌, ◌≤◌, pos, ℤ, length, ◌<ℤ◌}
use Rattle.std.specs.Prelude.{◌≤ℤ◌}
use Rattle.whole.specs.Sums.{sum}
use Rattle.rules.specs.Facts.Refusal.{InRange, Line, OutOfRange, line_of}
use Rattle.rules.specs.Problem.{word}
use Rattle.rules.specs.Sizes.{most_file_words}
use Rattle.rules.specs.Program.Bytes.{bytes_from, words_from}
use Rattle.rules.specs.Bundle.File.{bodies_most, count_in, edition_in, editions, file_refusal, pair_first, head_size}
use Rattle.rules.specs.Bundle.File.{pair_length, lengths_in, start_for, words_in}
use Rattle.rules.specs.Bundle.Writer.{file_size, file_words, writer_refusal}

-- ---- the file

abbrev pub bytes_line : ℕ → Line
bytes_line count = line_of 30 ((count % 4 ≢ 0) ⊎ ((count < 8) ⊎ (4 * most_file_words < count)))
    ((count % 4 ≡ 0) × ((8 ≤ count) × (count ≤ 4 * most_file_words)))

abbrev pub edition_line : List ℤ → Line
edition_line ws = line_of 31 (OutOfRange 1 (length editions) (word ws 0)) (InRange 1 (length editions) (word ws 0))

abbrev pub bodies_line : List ℤ → Line
bodies_line ws = line_of 32 (OutOfRange 0 (bodies_most (edition_in ws)) (word ws 1))
    (InRange 0 (bodies_most (edition_in ws)) (word ws 1))

abbrev pub table_line : List ℤ → Line
table_line ws = line_of 33 (length ws < head_size (count_in ws)) (head_size (count_in ws) ≤ length ws)

-- some length is negative, or some pair is not where the rule puts it
abbrev pub pair_line : List ℤ → Line
pair_line ws = line_of 34
    ((i : ℕ) × (i < count_in ws)
    × ((pair_length ws i <ℤ pos 0) ⊎ (pair_first ws i ≢ start_for (count_in ws) (pair_length ws) i)))
    ((i : ℕ) → i < count_in ws →
    (pos 0 ≤ℤ pair_length ws i) × (pair_first ws i ≡ start_for (count_in ws) (pair_length ws) i))

abbrev pub total_line : List ℤ → Line
total_line ws = line_of 35 (start_for (count_in ws) (pair_length ws) (count_in ws) ≢ pos (length ws))
    (start_for (count_in ws) (pair_length ws) (count_in ws) ≡ pos (length ws))

abbrev pub file_table : ℕ → List ℤ → List Line
file_table count ws =
    bytes_line count ∷ edition_line ws ∷ bodies_line ws ∷ table_line ws ∷ pair_line ws ∷ total_line ws ∷ []

-- what is lent for the lengths, or for the words, is too short
abbrev pub read_line : List ℤ → ℕ → ℕ → Line
read_line ws length_room word_room = line_of 36
    ((length_room < count_in ws) ⊎ (word_room < length ws - head_size (count_in ws)))
    ((count_in ws ≤ length_room) × (length ws - head_size (count_in ws) ≤ word_room))

abbrev pub read_table : ℕ → List ℤ → ℕ → ℕ → List Line
read_table count ws length_room word_room = file_table count ws ++ (read_line ws length_room word_room ∷ [])

-- of the bytes bs, with ws for its words
pub record FileAccepted (bs : List ℕ) (ws : List ℤ) : Type 0 where
  pub whole : length bs % 4 ≡ 0
  pub enough : 8 ≤ length bs
  pub few : length bs ≤ 4 * most_file_words
  pub edition-least : pos 1 ≤ℤ word ws 0
  pub edition-most : word ws 0 ≤ℤ pos (length editions)
  pub count-least : pos 0 ≤ℤ word ws 1
  pub count_most : word ws 1 ≤ℤ pos (bodies_most (edition_in ws))
  pub long : head_size (count_in ws) ≤ length ws
  pub lengths : (i : ℕ) → i < count_in ws → pos 0 ≤ℤ pair_length ws i
  pub starts : (i : ℕ) → i < count_in ws → pair_first ws i ≡ start_for (count_in ws) (pair_length ws) i
  pub total : start_for (count_in ws) (pair_length ws) (count_in ws) ≡ pos (length ws)

-- ---- the writer

abbrev pub writer_table : ℕ → List ℤ → List ℤ → ℕ → List Line
writer_table e lengths ws room =
    line_of 31 ((e < 1) ⊎ (length editions < e)) ((1 ≤ e) × (e ≤ length editions))
    ∷ line_of 32 (bodies_most e < length lengths) (length lengths ≤ bodies_most e)
    ∷ line_of 34 ((i : ℕ) × (i < length lengths) × (word lengths i <ℤ pos 0))
    ((i : ℕ) → i < length lengths → pos 0 ≤ℤ word lengths i)
    ∷ line_of 35 (sum (length lengths) (word lengths) ≢ pos (length ws))
    (sum (length lengths) (word lengths) ≡ pos (length ws))
    ∷ line_of 30 (most_file_words < file_size lengths ws) (file_size lengths ws ≤ most_file_words)
    ∷ line_of 36 (room < 4 * file_size lengths ws) (4 * file_size lengths ws ≤ room) ∷ []

pub record WriterAccepted (e : ℕ) (lengths ws : List ℤ) (room : ℕ) : Type 0 where
  pub edition-least : 1 ≤ e
  pub edition-most : e ≤ length editions
  pub count_most : length lengths ≤ bodies_most e
  pub lengths-least : (i : ℕ) → i < length lengths → pos 0 ≤ℤ word lengths i
  pub total : sum (length lengths) (word lengths) ≡ pos (length ws)
  pub few : file_size lengths ws ≤ most_file_words
  pub roomy : 4 * file_size lengths ws ≤ room

-- ---- round trips, over bytes

-- the bytes are a file of this edition, with these lengths and these words
pub record ReadsAs (bs : List ℕ) (e : ℕ) (lengths ws : List ℤ) : Type 0 where
  pub fine : file_refusal bs ≡ 0
  pub edition-is : edition_in (words_from bs) ≡ e
  pub lengths-are : lengths_in (words_from bs) ≡ lengths
  pub words_are : words_in (words_from bs) ≡ ws

-- edition, lengths and words make these bytes, where there is room for so many
pub record WritesAs (e : ℕ) (lengths ws : List ℤ) (bs : List ℕ) : Type 0 where
  pub fine : writer_refusal e lengths ws (length bs) ≡ 0
  pub bytes-are : bytes_from (file_words e lengths ws) ≡ bs
