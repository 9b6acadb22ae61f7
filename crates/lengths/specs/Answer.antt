-- What writing an answer asks and promises.
use Rattle.std.specs.Prelude.{List, ◌∷◌, ◌++◌, ℕ, ◌+◌, ◌*◌, ◌-◌, ◌≤◌, ◌<◌, ℤ, pos, get_or, take, drop}
use Rattle.std.proofs.Math.Seq.{slice}
use Rattle.rules.specs.Sizes.{most_vertices, most_time_rows}
use Rattle.lengths.specs.declared.answer.Halves.{Halves}
use Rattle.lengths.specs.declared.answer.Way.{Way}
use Rattle.lengths.specs.declared.Length.{Length}
use Rattle.lengths.specs.Lengths.{length_at, Passed}

-- distances that may all be those of times
abbrev pub AllPassed : List Length → Type 0
AllPassed best = (v : ℕ) → Passed (length_at best v)

-- the rows of a way
abbrev pub rows_of : Way → List ℕ
rows_of w = slice w.from w.to w.path

-- .. that can be written: they stand in the path, and are rows
pub record Gathering (w : Way) : Type 0 where
  pub in_order : w.from ≤ w.to
  pub in_path : w.to ≤ most_vertices
  pub listed : (k : ℕ) → k < w.to - w.from → get_or w.path (w.from + k) 0 < most_time_rows

-- two words, the first n words of each half, and what was past them
abbrev pub output : ℤ → ℕ → Halves → ℕ → List ℤ → List ℤ
output verdict count h n before =
    verdict ∷ pos count ∷ (take n h.plain ++ take n h.small) ++ drop (2 + 2 * n) before
