-- docs/RULES.md, "Time rows": what the answer's words are, what `times` promises, and what a row says of times. All of
-- the promise is an equation, but for the choice of a bad cycle and of its first row.
use Rattle.std.specs.Prelude.{◌≡◌, Bool, true, false, cond, List, ◌∷◌, ◌++◌, map, ℕ, zero, suc, ◌+◌, ◌*◌, ◌-◌, ◌<◌, ◌≤◌}
use Rattle.std.specs.Prelude.{ℤ, pos, nat_abs, negsuc, neg_ℤ, ◌-ℤ◌, ◌*ℤ◌, length, drop, replicate, ◌≤ℤ◌, ◌<ℤ◌}
use Rattle.whole.specs.Numbers.{eq_z}
use Rattle.whole.specs.Values.{pairs, mixed}
use Rattle.rules.specs.Problem.{n_of, m_of, word}
use Rattle.rules.specs.Times.Walks.{Shortest}
use Rattle.rules.specs.Times.Passes.{can_meet, distance, distances}
use Rattle.rules.specs.Times.Cycle.{BadCycle, row_told}
use Rattle.rules.specs.Times.Words.{from_word, to_word, strict_word, length_word, times_length, time_refusal}
use Rattle.rules.specs.Times.Words.{time_edges}
use Rattle.rules.specs.Facts.Fractions.{Fraction, InOrder, fractions, over_one}

-- the time of a vertex at a distance: minus it, part by part
abbrev pub plain_time : ℤ × ℤ → ℤ
plain_time d = neg_ℤ d.0

abbrev pub small_time : ℤ × ℤ → ℤ
small_time d = neg_ℤ d.1

-- the time of v: minus its shortest distance
abbrev pub time_of : List ℤ → ℕ → ℤ × ℤ
time_of ws v =
    let d : ℤ × ℤ = distance pairs (time_edges ws) (distances pairs (time_edges ws)) v in (plain_time d, small_time d)

-- the times: minus the shortest distances, first all plain parts, then how often the small amount is added
unfoldable pub times_of : List ℤ → List ℤ
times_of ws = map plain_time (distances pairs (time_edges ws)) ++ map small_time (distances pairs (time_edges ws))

-- the rows of a cycle, then zeros, as many words as are asked for
unfoldable pub cycle_words : ℕ → List ℕ → List ℤ
cycle_words n rows = map pos rows ++ replicate (n - length rows) (pos 0)

-- the answer to accepted words; `rows` are those of the cycle that is named where no times meet all rows
unfoldable pub times_answer : List ℤ → List ℕ → List ℤ
times_answer ws rows = cond (can_meet pairs (time_edges ws))
    (pos 1 ∷ pos (n_of ws) ∷ times_of ws)
    (pos 2 ∷ pos (length rows) ∷ cycle_words (2 * n_of ws) rows)

-- what stands in the output afterwards: a refusal keeps it; answered, the answer and then the words that were there
unfoldable pub times_written : ℕ → List ℤ → List ℕ → List ℤ → List ℤ
times_written zero ws rows before = times_answer ws rows ++ drop (times_length ws) before
times_written (suc k) ws rows before = before

-- the promise: r is the number, `after` the output
pub record Timed (ws before : List ℤ) (r : ℕ) (after : List ℤ) : Type 0 where
  pub refused : r ≡ time_refusal ws (length before)
  pub rows : List ℕ
  pub written : after ≡ times_written r ws rows before
  pub named : r ≡ 0 → can_meet pairs (time_edges ws) ≡ false → BadCycle pairs (time_edges ws) rows

-- what a row says of the difference z of two times: at most c, and a strict row less than c
abbrev pub RowSays : Bool → ℤ → ℤ → Type 0
RowSays true z c = z <ℤ c
RowSays false z c = z ≤ℤ c

-- .. of the times t v / d, fractions of a minute: x and y are the first two words of the row
abbrev MeetsRow : List ℤ → ℤ → (ℕ → ℤ) → ℕ → Type 0
MeetsRow ws d t i =
    RowSays (eq_z (strict_word ws i) (pos 1)) (t (nat_abs (from_word ws i)) -ℤ t (nat_abs (to_word ws i)))
    (d *ℤ length_word ws i)

abbrev pub MeetsRows : List ℤ → ℤ → (ℕ → ℤ) → Type 0
MeetsRows ws d t = (i : ℕ) → i < m_of ws → MeetsRow ws d t i

-- pairs as times: with any fraction e / k up to 1 / n for the small amount every row is met
abbrev pub MeetsSmall : List ℤ → (ℕ → ℤ × ℤ) → Type 0
MeetsSmall ws t = (e k : ℤ) → pos 0 <ℤ e → (e *ℤ pos (n_of ws)) ≤ℤ k → MeetsRows ws k (λ v. mixed e k (t v))

-- no fractions meet every row
abbrev pub NoFractions : List ℤ → Type 0
NoFractions ws = (d : ℤ) → pos 0 <ℤ d → (t : ℕ → ℤ) → ¬ MeetsRows ws d t

-- .. and over denominators of their own: x less y against c
pub record FractionsMeetRows (ws : List ℤ) (t : ℕ → Fraction) : Type 0 where
  pub positive : (v : ℕ) → v < n_of ws → pos 0 <ℤ (t v).under
  pub rows : (i : ℕ) → i < m_of ws → InOrder (eq_z (strict_word ws i) (pos 1))
      (fractions.plus (t (nat_abs (from_word ws i))) (fractions.scale (negsuc 0) (t (nat_abs (to_word ws i)))))
      (over_one (length_word ws i))

-- ---- what the words of an answered output say, by word 0

-- the time of v: its plain part and its small part
abbrev pub time_in : List ℤ → List ℤ → ℕ → ℤ × ℤ
time_in ws after v = (word after (2 + v), word after (2 + n_of ws + v))

-- n, and times that meet every row; each is minus the shortest distance. A small part is below n. `actual`: 1 / n is a
-- fraction that may be put for the small amount, and then the times are n times the plain part and the small part, by n
pub record TimesTold (ws after : List ℤ) : Type 0 where
  pub long : times_length ws ≤ length after
  pub verdict : word after 0 ≡ pos 1
  pub count : word after 1 ≡ pos (n_of ws)
  pub small : (v : ℕ) → v < n_of ws → (pos 0 ≤ℤ (time_in ws after v).1) × ((time_in ws after v).1 <ℤ pos (n_of ws))
  pub meet : MeetsSmall ws (time_in ws after)
  pub some : pos 0 <ℤ pos (n_of ws)
  pub actual : MeetsRows ws (pos (n_of ws)) (λ v. mixed (pos 1) (pos (n_of ws)) (time_in ws after v))
  pub shortest : (v : ℕ) → v < n_of ws →
      Shortest pairs (time_edges ws) v (neg_ℤ (time_in ws after v).0, neg_ℤ (time_in ws after v).1)

-- k, the k rows of a bad cycle, and zeros up to 2 + 2n; no fractions meet all rows
pub record CycleTold (ws after : List ℤ) : Type 0 where
  pub long : times_length ws ≤ length after
  pub rows : List ℕ
  pub bad : BadCycle pairs (time_edges ws) rows
  pub verdict : word after 0 ≡ pos 2
  pub count : word after 1 ≡ pos (length rows)
  pub few : length rows ≤ n_of ws
  pub listed : (k : ℕ) → k < length rows → word after (2 + k) ≡ pos (row_told rows k)
  pub zeros : (k : ℕ) → length rows ≤ k → k < 2 * n_of ws → word after (2 + k) ≡ pos 0
  pub no-fractions : NoFractions ws

-- what is left free: two outputs that each name a bad cycle, with the same words past it
pub record BothNamed (ws : List ℤ) (r : ℕ) (after other : List ℤ) : Type 0 where
  pub answered : r ≡ 0
  pub one : CycleTold ws after
  pub another : CycleTold ws other
  pub as_long : length after ≡ length other
  pub past : drop (times_length ws) after ≡ drop (times_length ws) other
