-- docs/formats/slices.md: runs worked by hand, cut by the numbers of pivots that stand beside them.
use Rattle.std.specs.Prelude.{List, [], ◌∷◌, map, ◌≡◌, ℕ, ℤ, pos}
use Rattle.std.proofs.Math.Option.{Option, none, some}
use Rattle.whole.specs.Values.{pairs}
use Rattle.rules.specs.Cases.Limits.{case_a, case_g, case_h, case_inside}
use Rattle.rules.specs.Problem.{inner, problem}
use Rattle.rules.specs.Runs.Slices.{Slice, begun, continued, slice_answer}

-- words, the pivots of each continue, and what each hands back: an answer's words, or nothing
pub record SliceCase : Type 0 where
  pub words : List ℤ
  pub pivots : List ℕ
  pub replies : List (Option (List ℤ))

unfoldable pub replies_of : Slice (ℤ × ℤ) → List ℕ → List (Option (List ℤ))
replies_of S [] = []
replies_of S (b ∷ bs) = slice_answer S b ∷ replies_of (continued pairs S b) bs

abbrev pub SlicesRight : List SliceCase → Type 0
SlicesRight cs =
    map (λ c. replies_of (begun pairs (inner (problem c.words))) c.pivots) cs ≡ map (λ c. c.replies) cs

-- over 3: 3 3 6 3 3, after 2 pivots
abbrev answer_a : List ℤ
answer_a = pos 1 ∷ pos 2 ∷ pos 3 ∷ pos 3 ∷ pos 3 ∷ pos 6 ∷ pos 3 ∷ pos 3 ∷ pos 0 ∷ pos 0 ∷ pos 0 ∷ pos 0 ∷ pos 0 ∷ []

-- over 1: 3 0 3 and small parts 1 0 1, after 1 pivot
abbrev answer_inside : List ℤ
answer_inside = pos 1 ∷ pos 1 ∷ pos 1 ∷ pos 3 ∷ pos 0 ∷ pos 3 ∷ pos 1 ∷ pos 0 ∷ pos 1 ∷ []

unfoldable pub slice_cases : List SliceCase
slice_cases =
    -- case A by 0, 1, 0, 1, 5: the answer with the second pivot, and again
    record {
      words = case_a.words;
      pivots = 0 ∷ 1 ∷ 0 ∷ 1 ∷ 5 ∷ [];
      replies = none ∷ none ∷ none ∷ some answer_a ∷ some answer_a ∷ [];
    }
    -- more than are left
    ∷ record {
      words = case_a.words;
      pivots = 18446744073709551615 ∷ 0 ∷ [];
      replies = some answer_a ∷ some answer_a ∷ [];
    }
    -- strict limits, cut before the pivot and behind it
    ∷ record {
      words = case_inside.words;
      pivots = 0 ∷ 1 ∷ 0 ∷ [];
      replies = none ∷ some answer_inside ∷ some answer_inside ∷ [];
    }
    -- limits that cross, and a run of no pivots: the answer at once
    ∷ record { words = case_g.words; pivots = 0 ∷ []; replies = some (pos 2 ∷ pos 0 ∷ pos 0 ∷ pos 1 ∷ pos 1 ∷ []) ∷ [] }
    ∷ record { words = case_h.words; pivots = 0 ∷ []; replies = some (pos 1 ∷ pos 0 ∷ pos 1 ∷ pos 0 ∷ pos 0 ∷ []) ∷ [] }
    ∷ []
