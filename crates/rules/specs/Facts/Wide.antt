-- docs/RULES.md, "Wide evidence", in plain facts, with no test inside; and what an accepted answer means.
--   LimbIn, HeadIn, Formed       which words a number has
--   RightWide, ShownWide         a verdict with its evidence, in numbers of four words
--   wide_table                    the checker's number, line by line (specs/Facts/Refusal)
--   MeantWide                    what the number 8 means
-- `checked_wide` of specs/Wide gives what the table says (`wide-exactly`).
use Rattle.std.specs.Prelude.{List, [], ◌++◌, ◌∷◌, ◌⊎◌, ◌≡◌, suc, ℕ, ◌<◌, ◌≤◌, negsuc, pos, ℤ, ◌*ℤ◌, length, ◌<ℤ◌, ◌≤ℤ◌}
use Rattle.whole.specs.Values.{mixed}
use Rattle.rules.specs.Evidence.{Satisfies, Unsatisfied, verdict_of}
use Rattle.rules.specs.Facts.Evidence.{Refutation, Solution}
use Rattle.rules.specs.Facts.Refusal.{Line, line_of, problem_table}
use Rattle.rules.specs.Limit.{Limit}
use Rattle.rules.specs.Problem.{Problem, problem, vars}
use Rattle.rules.specs.Sizes.{largest_head, largest_limb, largest_wide, most_rows}
use Rattle.rules.specs.Wide.{limb_at, numbers_of, wide_denominator, wide_length, wide_lower, wide_upper}

abbrev pub LimbIn : ℤ → Type 0
LimbIn z = (pos 0 ≤ℤ z) × (z ≤ℤ pos largest_limb)

abbrev pub HeadIn : ℤ → Type 0
HeadIn z = (negsuc largest_head ≤ℤ z) × (z ≤ℤ pos largest_head)

-- the four words of a number
pub record Formed (a : List ℤ) (slot : ℕ) : Type 0 where
  pub limb-0 : LimbIn (limb_at a slot 0)
  pub limb-1 : LimbIn (limb_at a slot 1)
  pub limb-2 : LimbIn (limb_at a slot 2)
  pub head : HeadIn (limb_at a slot 3)

-- a verdict with its evidence, whatever the words of its numbers
abbrev pub RightWide : Problem Limit → List ℤ → Type 0
RightWide P a = ((verdict_of a ≡ pos 1) × Solution P (wide_denominator a) (wide_lower a) (wide_upper (vars P) a))
    ⊎ ((verdict_of a ≡ pos 2) × Refutation P (wide_denominator a) (wide_lower a) (wide_upper (vars P) a))

pub record ShownWide (P : Problem Limit) (a : List ℤ) : Type 0 where
  pub formed : (slot : ℕ) → slot < numbers_of (vars P) → Formed a slot
  pub shown : RightWide P a

-- refusals 1 to 6 and 10, an answer too short, evidence, and nothing else
abbrev pub wide_table : List ℤ → List ℤ → List Line
wide_table ws a = problem_table most_rows ws
    ++ (line_of 7 (length a < wide_length ws) (wide_length ws ≤ length a)
    ∷ line_of 8 (ShownWide (problem ws) a) (¬ ShownWide (problem ws) a) ∷ line_of 9 (Unit {0}) ⊥ ∷ [])

-- ---- what the number 8 means

-- each positive fraction e / k up to 1 / (2^127 + 1), put for the small amount, makes of the answer's pairs fractions
-- that meet every row and limit, a strict one strictly
abbrev pub MetWide : Problem Limit → List ℤ → Type 0
MetWide P a = (e k : ℤ) → pos 0 <ℤ e → (e *ℤ pos (suc largest_wide)) ≤ℤ k →
    Satisfies P (k *ℤ wide_denominator a) (λ v. mixed e k (wide_lower a v, wide_upper (vars P) a v))

pub data MeantWide (P : Problem Limit) (a : List ℤ) : Type 0 where
  can-be-met : verdict_of a ≡ pos 1 → MetWide P a → MeantWide P a
  cannot-be-met : verdict_of a ≡ pos 2 → Unsatisfied P → MeantWide P a
