-- docs/RULES.md, "The auditor's sheet": what theorems say of bodies, in plain facts.
--   Answers, Refuses    a body has a verdict, or is refused
--   Leads               body i is the one of k that is named: the lowest with a verdict that reached the largest
use Rattle.std.specs.Prelude.{false, true, List, ◌≡◌, ℕ, ◌<◌, ◌≤◌, ℤ}
use Rattle.rules.specs.Sheet.Totals.{answered_class, class_of, largest_pivots, pivots_of}

abbrev pub Answers : ℕ → List ℤ → Type 0
Answers rows b = answered_class (class_of rows b) ≡ true

abbrev pub Refuses : ℕ → List ℤ → Type 0
Refuses rows b = answered_class (class_of rows b) ≡ false

pub record Leads (rows k : ℕ) (body : ℕ → List ℤ) (i : ℕ) : Type 0 where
  pub in-range : i < k
  pub answers : Answers rows (body i)
  pub reached : pivots_of rows (body i) ≡ largest_pivots rows k body
  pub first : (u : ℕ) → u < i → Answers rows (body u) → pivots_of rows (body u) < pivots_of rows (body i)
  pub most : (u : ℕ) → u < k → pivots_of rows (body u) ≤ pivots_of rows (body i)
