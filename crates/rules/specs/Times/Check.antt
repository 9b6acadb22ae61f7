-- docs/RULES.md, "Evidence about time rows": the checker's rule as a function that computes, and once more in plain
-- facts.
--   times_shown, TimesShown     times: n, and pairs that meet every row
--   cycle_shown, CycleShown     a bad cycle: how many rows, the rows, and zeros
--   checked_times               11 to 17 by the rows and the answer's length, 8 accepted, 9 not
--   ShownTimes, times_check_table    its number, line by line (specs/Facts/Refusal)
use Rattle.std.specs.Prelude.{◌≡◌, Bool, true, false, cond, not, ◌&&◌, ◌||◌, List, [], ◌∷◌, ◌++◌, ◌⊎◌, ℕ, ◌+◌, ◌*◌, ◌<◌}
use Rattle.std.specs.Prelude.{ltb, ℤ, nat_abs, pos, ◌-ℤ◌, length, ◌<ℤ◌, ◌≤ℤ◌}
use Rattle.std.specs.Int.Signed.{lt_z}
use Rattle.whole.specs.Below.{all_below}
use Rattle.whole.specs.Numbers.{eq_z, is_neg, outside}
use Rattle.whole.specs.Tables.{table}
use Rattle.whole.specs.Values.{Le, pairs}
use Rattle.rules.specs.Evidence.{clears, verdict_of}
use Rattle.rules.specs.Facts.Refusal.{Line, line_of}
use Rattle.rules.specs.Problem.{m_of, n_of, word}
use Rattle.rules.specs.Refusal.{first}
use Rattle.rules.specs.Times.Answer.{time_in}
use Rattle.rules.specs.Times.Cycle.{BadCycle, is_bad_cycle}
use Rattle.rules.specs.Times.Words.{time_edges, time_tests, times_table}

-- ---- times

-- how far the times of a row's two vertices are apart, part by part
abbrev pub apart_by : List ℤ → List ℤ → ℕ → ℤ × ℤ
apart_by ws a i =
    let x : ℤ × ℤ = time_in ws a ((time_edges ws).tail i) in
    let y : ℤ × ℤ = time_in ws a ((time_edges ws).head i) in (x.0 -ℤ y.0, x.1 -ℤ y.1)

-- at most the length of the row
unfoldable pub row_met : List ℤ → List ℤ → ℕ → Bool
row_met ws a i = clears false (apart_by ws a i) ((time_edges ws).size i)

unfoldable pub times_shown : List ℤ → List ℤ → Bool
times_shown ws a = eq_z (word a 1) (pos (n_of ws)) && all_below (m_of ws) (row_met ws a)

-- ---- a bad cycle

abbrev pub cycle_length : List ℤ → ℕ
cycle_length a = nat_abs (word a 1)

abbrev pub row_named : List ℤ → ℕ → ℕ
row_named a k = nat_abs (word a (2 + k))

abbrev pub rows_named : List ℤ → List ℕ
rows_named a = table (cycle_length a) (row_named a)

-- word 2 + k is the number of a row
abbrev pub is_row : List ℤ → List ℤ → ℕ → Bool
is_row ws a k = not (is_neg (word a (2 + k))) && lt_z (word a (2 + k)) (pos (m_of ws))

-- past the rows there are zeros
abbrev pub is_past : List ℤ → ℕ → Bool
is_past a k = ltb k (cycle_length a) || eq_z (word a (2 + k)) (pos 0)

unfoldable pub cycle_shown : List ℤ → List ℤ → Bool
cycle_shown ws a =
    not (outside 1 (n_of ws) (word a 1))
    && all_below (cycle_length a) (is_row ws a)
    && is_bad_cycle pairs (time_edges ws) (rows_named a)
    && all_below (2 * n_of ws) (is_past a)

-- ---- the checker

unfoldable pub accepted_answer : List ℤ → List ℤ → Bool
accepted_answer ws a =
    cond (eq_z (verdict_of a) (pos 1)) (times_shown ws a) (cond (eq_z (verdict_of a) (pos 2)) (cycle_shown ws a) false)

unfoldable pub checked_times : List ℤ → List ℤ → ℕ
checked_times ws a = first (time_tests ws (length a) ++ ((accepted_answer ws a, 8) ∷ (true, 9) ∷ []))

-- ---- in plain facts

pub record TimesShown (ws a : List ℤ) : Type 0 where
  pub count : word a 1 ≡ pos (n_of ws)
  pub met : (i : ℕ) → i < m_of ws → Le pairs (apart_by ws a i) ((time_edges ws).size i)

pub record CycleShown (ws a : List ℤ) : Type 0 where
  pub some : pos 1 ≤ℤ word a 1
  pub few : word a 1 ≤ℤ pos (n_of ws)
  pub rows : (k : ℕ) → k < cycle_length a → (pos 0 ≤ℤ word a (2 + k)) × (word a (2 + k) <ℤ pos (m_of ws))
  pub bad : BadCycle pairs (time_edges ws) (rows_named a)
  pub zeros : (k : ℕ) → k < 2 * n_of ws → (k < cycle_length a) ⊎ (word a (2 + k) ≡ pos 0)

abbrev pub ShownTimes : List ℤ → List ℤ → Type 0
ShownTimes ws a = ((verdict_of a ≡ pos 1) × TimesShown ws a) ⊎ ((verdict_of a ≡ pos 2) × CycleShown ws a)

-- refusals 11 to 16, an answer too short, evidence, and nothing else
abbrev pub times_check_table : List ℤ → List ℤ → List Line
times_check_table ws a = times_table ws (length a)
    ++ (line_of 8 (ShownTimes ws a) (¬ ShownTimes ws a) ∷ line_of 9 (Unit {0}) ⊥ ∷ [])
