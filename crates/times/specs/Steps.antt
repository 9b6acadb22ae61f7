-- What passes and the way back ask and promise. Each is stated over the edges of the words, through what
-- the arrays stand for.
use Rattle.std.specs.Prelude.{Result, Ok, Err}
use Rattle.std.specs.Prelude.{◌≡◌, ◌≢◌, Bool, true, false, List, ℕ, suc, ◌+◌, ◌*◌, ◌≤◌, ◌<◌, ℤ, ◌+ℤ◌, length, get_or}
use Rattle.std.specs.Int.Signed.{lt_z}
use Rattle.whole.specs.Values.{pairs}
use Rattle.rules.specs.Sizes.{most_vertices, most_time_rows}
use Rattle.rules.specs.Problem.{n_of, m_of}
use Rattle.rules.specs.Times.Passes.{distance, distances, can_meet}
use Rattle.rules.specs.Times.Cycle.{BadCycle}
use Rattle.rules.specs.Times.Words.{time_edges}
use Rattle.rules.specs.Times.Traces.{Traced}
use Rattle.lengths.specs.declared.answer.Way.{Way}
use Rattle.lengths.specs.declared.Length.{Length}
use Rattle.lengths.specs.Answer.{AllPassed, rows_of}
use Rattle.lengths.specs.Lengths.{length_at, key_at, key_of, looks_made, Near, ModestLength}
use Rattle.timerows.specs.Judged.{Fine}

-- ---- looks

abbrev pub AllModest : List Length → Type 0
AllModest best = (v : ℕ) → ModestLength (length_at best v)

-- whether row i betters its head, in the code's numbers
abbrev pub is_less : List ℤ → List Length → ℕ → Bool
is_less ws best i =
    lt_z (key_at best ((time_edges ws).tail i) +ℤ key_of ((time_edges ws).size i))
    (key_at best ((time_edges ws).head i))

-- no row betters its head, or some row does
abbrev pub Quiet : List ℤ → List Length → Bool → Type 0
Quiet ws best true = (i : ℕ) → i < m_of ws → is_less ws best i ≡ false
Quiet ws best false = (i : ℕ) × (i < m_of ws) × (is_less ws best i ≡ true)

-- ---- passes

-- the row that bettered v last; past an array's end it is 0
abbrev pub last_row : List ℕ → ℕ → ℕ
last_row last v = get_or last v 0

-- what stands for no row is one past the last number that a row can have
abbrev pub no_row : ℕ
no_row = most_time_rows

-- after k passes and the looks at the rows below i
pub record Looked (ws : List ℤ) (k i : ℕ) (best : List Length) (last : List ℕ) : Type 0 where
  pub fine : Fine ws
  pub early : k < most_vertices
  pub time : ℕ → ℕ
  -- the distances as pairs
  pub far : ℕ → ℤ × ℤ
  pub are : (v : ℕ) → key_at best v ≡ key_of (far v)
  pub near : (v : ℕ) → Near (far v) (looks_made k i)
  pub traced : Traced pairs (time_edges ws) (m_of ws * k) i time far (last_row last)
  -- where a row stands, it has bettered the vertex
  pub stands : (v : ℕ) → v < most_vertices → last_row last v ≢ no_row → 0 < time v
  pub best-long : length best ≡ most_vertices
  pub last-long : length last ≡ most_vertices

-- what the looks of a pass have found, b looks having been made before it
pub record Finds (ws : List ℤ) (b : ℕ) (time : ℕ → ℕ) (row : ℕ) : Type 0 where
  pub none : row ≡ no_row → (v : ℕ) → time v ≤ b
  pub listed : row ≢ no_row → row < m_of ws
  pub late : row ≢ no_row → b < time ((time_edges ws).head row)

pub record Pass (ws : List ℤ) (k i : ℕ) (best : List Length) (last : List ℕ) (row : ℕ) : Type 0 where
  pub looked : Looked ws k i best last
  pub finds : Finds ws (m_of ws * k) looked.time row

-- ---- how passes end

-- no row betters its head
pub record Settled (ws : List ℤ) (best : List Length) : Type 0 where
  pub can : can_meet pairs (time_edges ws) ≡ true
  pub are : (v : ℕ) → key_at best v ≡ key_of (distance pairs (time_edges ws) (distances pairs (time_edges ws)) v)
  pub passed : AllPassed best
  pub long : length best ≡ most_vertices

-- ---- the way back

-- after `passes` passes one more has bettered v
pub record Closing (ws : List ℤ) (last : List ℕ) (passes v : ℕ) : Type 0 where
  pub best : List Length
  pub looked : Looked ws passes (m_of ws) best last
  pub vertex : v < n_of ws
  pub late : m_of ws * passes < looked.time v

pub record Closed (ws : List ℤ) (w : Way) : Type 0 where
  pub in_order : w.from ≤ w.to
  pub in_path : w.to ≤ most_vertices
  pub bad : BadCycle pairs (time_edges ws) (rows_of w)

-- some places are left, and no more than n passes leave to be made
pub record Spare (ws : List ℤ) (passes left : ℕ) : Type 0 where
  pub some : 0 < left
  pub few : left + suc passes ≤ n_of ws

-- the way has closed a bad cycle, or has ended
abbrev pub Went : List ℤ → ℕ → Result Way ℕ → Type 0
Went ws passes (Ok way) = Closed ws way
Went ws passes (Err left) = Spare ws passes left

-- some number of passes was made; and whatever it is, the way back has gone so
abbrev pub Tried : List ℤ → List ℕ → ℕ → Type 0
Tried ws last v = (passes : ℕ) × Closing ws last passes v

abbrev pub Back : List ℤ → List ℕ → ℕ → Result Way ℕ → Type 0
Back ws last v went = (passes : ℕ) → Closing ws last passes v → Went ws passes went

-- what the passes come to
abbrev pub Settling : List ℤ → Result (List Length) Way → Type 0
Settling ws (Ok best) = Settled ws best
Settling ws (Err way) = Closed ws way
