-- docs/RULES.md, "A day's file": the file of an edition that k lengths and the words of all bodies, back to back,
-- make. No body is judged.
use Rattle.std.specs.Prelude.{Bool, cond, not, ◌||◌, List, [], ◌∷◌, ◌++◌, ℕ, zero, suc, ◌+◌, ◌*◌, ◌/◌, ◌%◌, ltb, eqb, ℤ}
use Rattle.std.specs.Prelude.{pos, length, drop}
use Rattle.whole.specs.Below.{some_below}
use Rattle.whole.specs.Numbers.{eq_z, is_neg}
use Rattle.whole.specs.Sums.{sum}
use Rattle.whole.specs.Tables.{table}
use Rattle.rules.specs.Sizes.{most_file_words}
use Rattle.rules.specs.Problem.{word}
use Rattle.rules.specs.Refusal.{first}
use Rattle.rules.specs.Program.Bytes.{bytes_from}
use Rattle.rules.specs.Bundle.File.{bodies_most, editions, head_size, start_for}

-- ---- the file

-- the pairs of k bodies: at even places where a body starts, at odd places its length
unfoldable pub contents : List ℤ → ℕ → ℤ
contents lengths p =
    cond (eqb (p % 2) 0) (start_for (length lengths) (word lengths) (p / 2)) (word lengths (p / 2))

unfoldable pub head_words : ℕ → List ℤ → List ℤ
head_words e lengths = pos e ∷ pos (length lengths) ∷ table (2 * length lengths) (contents lengths)

unfoldable pub file_words : ℕ → List ℤ → List ℤ → List ℤ
file_words e lengths ws = head_words e lengths ++ ws

-- in words
abbrev pub file_size : List ℤ → List ℤ → ℕ
file_size lengths ws = head_size (length lengths) + length ws

-- ---- refusals; room is in bytes

unfoldable pub no_such_edition : ℕ → Bool
no_such_edition e = ltb e 1 || ltb (length editions) e

unfoldable pub too_many : ℕ → List ℤ → Bool
too_many e lengths = ltb (bodies_most e) (length lengths)

unfoldable pub bad_lengths : List ℤ → Bool
bad_lengths lengths = some_below (length lengths) (λ i. is_neg (word lengths i))

unfoldable pub bad_sum : List ℤ → List ℤ → Bool
bad_sum lengths ws = not (eq_z (sum (length lengths) (word lengths)) (pos (length ws)))

unfoldable pub too_long : List ℤ → List ℤ → Bool
too_long lengths ws = ltb most_file_words (file_size lengths ws)

unfoldable pub file_room : List ℤ → List ℤ → ℕ → Bool
file_room lengths ws room = ltb room (4 * file_size lengths ws)

unfoldable pub writer_tests : ℕ → List ℤ → List ℤ → ℕ → List (Bool × ℕ)
writer_tests e lengths ws room =
    (no_such_edition e, 31) ∷ (too_many e lengths, 32) ∷ (bad_lengths lengths, 34) ∷ (bad_sum lengths ws, 35)
    ∷ (too_long lengths ws, 30) ∷ (file_room lengths ws room, 36) ∷ []

unfoldable pub writer_refusal : ℕ → List ℤ → List ℤ → ℕ → ℕ
writer_refusal e lengths ws room = first (writer_tests e lengths ws room)

-- what is lent holds afterwards, by the writer's number: a refusal keeps it
unfoldable pub file_left : ℕ → ℕ → List ℤ → List ℤ → List ℕ → List ℕ
file_left zero e lengths ws before = bytes_from (file_words e lengths ws) ++ drop (4 * file_size lengths ws) before
file_left (suc k) e lengths ws before = before
