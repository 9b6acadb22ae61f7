-- Lines and their steps, and an array that is filled line by line, by f of the flat place; m rows and n columns.
--   lines_start, lines-all             before the first line it is all 0; after the last every cell in use is there
--   step_in, spot_in                   a step of a line has a place in the array, and its spot is in use
--   line-start, line-more, line-all    a line: none of its steps yet, one more, all of them
use Prim.Native.Nat.{ℕ, ◌+◌, ◌<◌}
use native.Mathlib.Nat.{lt_of_lt_of_le}
use native.Mathlib.Omega.{arith}
use mathlib.Core.List.{List}
use mathlib.Core.Path.{◌≡◌, ap, ◌∙◌}
use lib.IntN.{ℤ, pos}
use lib.ListN.{replicate, set}
use Rattle.whole.specs.Tables.{filled}
use Rattle.whole.proofs.Lists.Prefix.{filled_more, filled-start}
use Rattle.layout.specs.declared.Spot.{Spot}
use Rattle.layout.specs.Layout.{OnLine, line_at, lines, live, most_entries, spot_at, steps}
use Rattle.layout.proofs.Laws.Layout.{column-live, line-next, lines-live, live-most, row-live, step-live}

module _ {m n line step : ℕ} (h : OnLine m n line step) where
  step-used : line_at m n line + step < live m n
  step-used = step-live m n line step h.in-steps h.in_lines

  pub step_in : line_at m n line + step < most_entries
  step_in = lt_of_lt_of_le step-used (live-most m n h.few-rows h.few-columns)

  pub spot_in : {x : Spot} → x ≡ spot_at m n (line_at m n line + step) → (x.row.0 < m) × (x.column.0 < n)
  spot_in e = let k = line_at m n line + step in
      (rw e (row-live m n k step-used), rw e (column-live m n k step-used))

module _ (m n : ℕ) (f : ℕ → ℤ) where
  abbrev up_to : ℕ → List ℤ
  up_to k = filled most_entries (pos 0) k f

  pub lines_start : replicate most_entries (pos 0) ≡ up_to (line_at m n 0)
  lines_start = filled-start most_entries (pos 0) f ∙ ap up_to (let z : 0 ≡ line_at m n 0 = omega arith in z)

  pub lines-all : {l : List ℤ} {line : ℕ} → line ≡ lines m n → l ≡ up_to (line_at m n line) → l ≡ up_to (live m n)
  lines-all e h = h ∙ ap (λ k. up_to (line_at m n k)) e ∙ ap up_to (lines-live m n)

  module _ (line : ℕ) {l : List ℤ} where
    pub line-start : l ≡ up_to (line_at m n line) → l ≡ up_to (line_at m n line + 0)
    line-start h = h ∙ ap up_to (let z : line_at m n line ≡ line_at m n line + 0 = omega arith in z)

    pub line-more : {step at : ℕ} {a : ℤ} → OnLine m n line step → at ≡ line_at m n line + step →
        l ≡ up_to (line_at m n line + step) → a ≡ f (line_at m n line + step) →
        set l at a ≡ up_to (line_at m n line + (step + 1))
    line-more {step} {at} {a} h e q r = ap (λ k. set l k a) e
        ∙ filled_more most_entries (pos 0) f (line_at m n line + step) (step_in h) q r
        ∙ ap up_to (let z : line_at m n line + step + 1 ≡ line_at m n line + (step + 1) = omega arith in z)

    pub line-all : {step : ℕ} → step ≡ steps m n → l ≡ up_to (line_at m n line + step) → l ≡ up_to
        (line_at m n (line + 1))
    line-all e h = h ∙ ap (λ k. up_to (line_at m n line + k)) e ∙ ap up_to (line-next m n line)
