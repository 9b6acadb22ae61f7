-- What the checker of a cycle computes, row by row of the answer.
use Rattle.std.specs.Prelude.{Bool, not, ◌&&◌, ◌||◌, List, ℕ, suc, ◌+◌, ◌*◌, ◌-◌, ◌<◌, ◌≤◌, eqb, ℤ, pos, length, ◌<ℤ◌}
use Rattle.std.specs.Prelude.{◌≤ℤ◌}
use Rattle.std.specs.Int.Signed.{lt_z}
use Rattle.whole.specs.Below.{all_below}
use Rattle.whole.specs.Numbers.{Within, is_neg}
use Rattle.whole.specs.Sums.{sum}
use Rattle.rules.specs.Problem.{m_of, word}
use Rattle.rules.specs.Sizes.{largest_length, most_vertices}
use Rattle.rules.specs.Times.Check.{cycle_length, row_named}
use Rattle.rules.specs.Times.Words.{time_edges}

-- an answer whose first words past word 1 are numbers of rows
pub record Named (ws a : List ℤ) (count : ℕ) : Type 0 where
  pub few : count ≤ most_vertices
  pub long : 2 + count ≤ length a
  pub least : (k : ℕ) → k < count → pos 0 ≤ℤ word a (2 + k)
  pub most : (k : ℕ) → k < count → word a (2 + k) <ℤ pos (m_of ws)

-- word 2 + k is not below 0, and below a number
abbrev pub is_between : List ℤ → ℤ → ℕ → Bool
is_between a most k = not (is_neg (word a (2 + k))) && lt_z (word a (2 + k)) most

abbrev pub tail_named : List ℤ → List ℤ → ℕ → ℕ
tail_named ws a k = (time_edges ws).tail (row_named a k)

abbrev pub head_named : List ℤ → List ℤ → ℕ → ℕ
head_named ws a k = (time_edges ws).head (row_named a k)

-- the row at place j leads to where the one at place k starts
abbrev pub linked_at : List ℤ → List ℤ → ℕ → ℕ → Bool
linked_at ws a j k = eqb (head_named ws a j) (tail_named ws a k)

-- no row before place k starts where the one there does
unfoldable pub new_up_to : List ℤ → List ℤ → ℕ → ℕ → Bool
new_up_to ws a k i = all_below i (λ j. not (eqb (tail_named ws a j) (tail_named ws a k)))

-- each row but the last leads to the next; the last leads back; no two start at one vertex
abbrev pub links_on : List ℤ → List ℤ → Bool
links_on ws a = all_below (cycle_length a - 1) (λ j. linked_at ws a j (suc j))

abbrev pub links_back : List ℤ → List ℤ → Bool
links_back ws a = linked_at ws a (cycle_length a - 1) 0

abbrev pub all_new : List ℤ → List ℤ → Bool
all_new ws a = all_below (cycle_length a) (λ j. new_up_to ws a j j)

-- word `at` of each row, summed
unfoldable pub word_sum : List ℤ → List ℤ → ℕ → ℕ → ℤ
word_sum ws a at k = sum k (λ j. word ws (at + 4 * row_named a j))

-- a sum below 0, or 0 with a strict row
abbrev pub bad_round : ℤ → ℤ → Bool
bad_round plain strict = lt_z plain (pos 0) || (not (lt_z (pos 0) plain) && lt_z (pos 0) strict)

abbrev pub bad_around : List ℤ → List ℤ → Bool
bad_around ws a = bad_round (word_sum ws a 5 (cycle_length a)) (word_sum ws a 4 (cycle_length a))

-- these words are within the largest length
pub record Summable (ws : List ℤ) (at : ℕ) : Type 0 where
  pub low : at ≤ 5
  pub each : (i : ℕ) → i < m_of ws → Within (word ws (at + 4 * i)) largest_length
