-- docs/RULES.md, "Time rows", last sentence: rows that lead from one to the next and back to where they began, through
-- no vertex twice, with a sum of lengths below 0. No rows are no bad cycle: their lengths sum to 0.
use Rattle.std.specs.Prelude.{◌≡◌, ◌≢◌, Bool, ◌&&◌, not, List, ℕ, suc, ◌-◌, ◌<◌, ltb, eqb, length, get_or}
use Rattle.whole.specs.Below.{all_below}
use Rattle.whole.specs.Values.{Values, total, Lt}
use Rattle.rules.specs.Times.Walks.{Edges}

abbrev pub row_told : List ℕ → ℕ → ℕ
row_told rows k = get_or rows k 0

-- rows that go round
pub record Cycle {X : Type 0} (E : Edges X) (rows : List ℕ) : Type 0 where
  pub listed : (k : ℕ) → k < length rows → row_told rows k < E.count
  pub linked : (k : ℕ) → suc k < length rows → E.head (row_told rows k) ≡ E.tail (row_told rows (suc k))
  pub closed : E.head (row_told rows (length rows - 1)) ≡ E.tail (row_told rows 0)
  pub apart : (j k : ℕ) → j < k → k < length rows → E.tail (row_told rows j) ≢ E.tail (row_told rows k)

module _ {X : Type 0} (𝓥 : Values X) (E : Edges X) where
  abbrev pub around : List ℕ → X
  around rows = total 𝓥 (length rows) (λ k. E.size (row_told rows k))

  pub record BadCycle (rows : List ℕ) : Type 0 where
    pub cycle : Cycle E rows
    pub below : Lt 𝓥 (around rows) 𝓥.nil

  -- the same as a test
  unfoldable pub is_bad_cycle : List ℕ → Bool
  is_bad_cycle rows =
      all_below (length rows) (λ k. ltb (row_told rows k) E.count)
      && all_below (length rows - 1) (λ k. eqb (E.head (row_told rows k)) (E.tail (row_told rows (suc k))))
      && eqb (E.head (row_told rows (length rows - 1))) (E.tail (row_told rows 0))
      && all_below (length rows) (λ k. all_below k (λ j. not
      (eqb (E.tail (row_told rows j)) (E.tail (row_told rows k)))))
      && 𝓥.less (around rows) 𝓥.nil
