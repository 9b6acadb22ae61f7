-- docs/RULES.md, "Time rows", first two paragraphs: the words n, m, then m rows x, y, strict, c; their refusals in
-- order; and the edges that they are.
use Rattle.std.specs.Prelude.{Bool, ◌||◌, not, List, [], ◌∷◌, ◌≢◌, ◌⊎◌, ℕ, ◌+◌, ◌*◌, ◌-◌, ◌≤◌, ◌<◌, ◌≡◌, ℤ, pos}
use Rattle.std.specs.Prelude.{nat_abs, neg_ℤ, length, ltb, eqb, ◌≤ℤ◌}
use Rattle.whole.specs.Below.{some_below}
use Rattle.whole.specs.Numbers.{Within, within, outside}
use Rattle.rules.specs.Sizes.{most_vertices, most_time_rows, largest_length}
use Rattle.rules.specs.Problem.{word, n_of, m_of}
use Rattle.rules.specs.Facts.Refusal.{InRange, Line, OutOfRange, line_of}
use Rattle.rules.specs.Refusal.{first, too_few}
use Rattle.rules.specs.Times.Walks.{Edges}

-- the words of row i
abbrev pub from_word : List ℤ → ℕ → ℤ
from_word ws i = word ws (2 + 4 * i)

abbrev pub to_word : List ℤ → ℕ → ℤ
to_word ws i = word ws (3 + 4 * i)

abbrev pub strict_word : List ℤ → ℕ → ℤ
strict_word ws i = word ws (4 + 4 * i)

abbrev pub length_word : List ℤ → ℕ → ℤ
length_word ws i = word ws (5 + 4 * i)

-- how many words an answer has: two, and two for each vertex
abbrev pub times_length : List ℤ → ℕ
times_length ws = 2 + 2 * n_of ws

-- ---- refusals 11 to 17; the first is that of Refusal.antt

unfoldable pub bad_time_size : List ℤ → Bool
bad_time_size ws = outside 1 most_vertices (word ws 0) || outside 0 most_time_rows (word ws 1)

unfoldable pub bad_word_count : List ℤ → Bool
bad_word_count ws = not (eqb (length ws) (2 + 4 * m_of ws))

-- of row i: an end that is no vertex, a strict word not 0 or 1, c out of range
unfoldable pub bad_end : List ℤ → ℕ → Bool
bad_end ws i = outside 0 (n_of ws - 1) (from_word ws i) || outside 0 (n_of ws - 1) (to_word ws i)

unfoldable pub bad_strict : List ℤ → ℕ → Bool
bad_strict ws i = outside 0 1 (strict_word ws i)

unfoldable pub bad_row_length : List ℤ → ℕ → Bool
bad_row_length ws i = not (within largest_length (length_word ws i))

unfoldable pub no_room : List ℤ → ℕ → Bool
no_room ws room = ltb room (times_length ws)

-- the rows below k, then what comes after them
abbrev pub row_tests : List ℤ → ℕ → List (Bool × ℕ) → List (Bool × ℕ)
row_tests ws k after = (some_below k (bad_end ws), 14) ∷ (some_below k (bad_strict ws), 15) ∷
    (some_below k (bad_row_length ws), 16) ∷ after

unfoldable pub time_tests : List ℤ → ℕ → List (Bool × ℕ)
time_tests ws room =
    (too_few ws, 11) ∷ (bad_time_size ws, 12) ∷ (bad_word_count ws, 13) ∷ row_tests ws (m_of ws)
    ((no_room ws room, 17) ∷ [])

-- room is the length of the output
unfoldable pub time_refusal : List ℤ → ℕ → ℕ
time_refusal ws room = first (time_tests ws room)

-- ---- the table in plain words: specs/Facts/Refusal says how a table is read

abbrev pub times_table : List ℤ → ℕ → List Line
times_table ws room =
    line_of 11 (length ws < 2) (2 ≤ length ws)
    ∷ line_of 12 (OutOfRange 1 most_vertices (word ws 0) ⊎ OutOfRange 0 most_time_rows (word ws 1))
    (InRange 1 most_vertices (word ws 0) × InRange 0 most_time_rows (word ws 1))
    ∷ line_of 13 (length ws ≢ 2 + 4 * m_of ws) (length ws ≡ 2 + 4 * m_of ws)
    -- an end of some row is no vertex
    ∷ line_of 14
    ((i : ℕ) × (i < m_of ws) × (OutOfRange 0 (n_of ws - 1) (from_word ws i) ⊎ OutOfRange 0 (n_of ws - 1)
    (to_word ws i)))
    ((i : ℕ) → i < m_of ws → InRange 0 (n_of ws - 1) (from_word ws i) × InRange 0 (n_of ws - 1) (to_word ws i))
    ∷ line_of 15 ((i : ℕ) × (i < m_of ws) × OutOfRange 0 1 (strict_word ws i))
    ((i : ℕ) → i < m_of ws → InRange 0 1 (strict_word ws i))
    ∷ line_of 16 ((i : ℕ) × (i < m_of ws) × (¬ Within (length_word ws i) largest_length))
    ((i : ℕ) → i < m_of ws → Within (length_word ws i) largest_length)
    ∷ line_of 17 (room < times_length ws) (times_length ws ≤ room) ∷ []

-- ---- what they leave

pub record AcceptedTimes (ws : List ℤ) (room : ℕ) : Type 0 where
  pub enough : 2 ≤ length ws
  pub n-least : pos 1 ≤ℤ word ws 0
  pub n-most : word ws 0 ≤ℤ pos most_vertices
  pub m-least : pos 0 ≤ℤ word ws 1
  pub m-most : word ws 1 ≤ℤ pos most_time_rows
  pub exact : length ws ≡ 2 + 4 * m_of ws
  pub from-least : (i : ℕ) → i < m_of ws → pos 0 ≤ℤ from_word ws i
  pub from-most : (i : ℕ) → i < m_of ws → from_word ws i ≤ℤ pos (n_of ws - 1)
  pub to-least : (i : ℕ) → i < m_of ws → pos 0 ≤ℤ to_word ws i
  pub to-most : (i : ℕ) → i < m_of ws → to_word ws i ≤ℤ pos (n_of ws - 1)
  pub strict-least : (i : ℕ) → i < m_of ws → pos 0 ≤ℤ strict_word ws i
  pub strict-most : (i : ℕ) → i < m_of ws → strict_word ws i ≤ℤ pos 1
  pub lengths : (i : ℕ) → i < m_of ws → Within (length_word ws i) largest_length
  pub roomy : times_length ws ≤ room

-- ---- the edges that they are

-- each row as an edge, x its tail and y its head. Its length is the pair of c and minus the strict word: one small
-- amount less than c where the row is strict
abbrev pub time_edges : List ℤ → Edges (ℤ × ℤ)
time_edges ws = record {
  vertices = n_of ws;
  count = m_of ws;
  tail = λ i. nat_abs (from_word ws i);
  head = λ i. nat_abs (to_word ws i);
  size = λ i. (length_word ws i, neg_ℤ (strict_word ws i));
}
