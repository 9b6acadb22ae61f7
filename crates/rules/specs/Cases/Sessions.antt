-- docs/formats/session.md: sessions worked by hand, a script of operations and what each comes to. docs/RULES.md, "The
-- first violation": what is shown of sessions, and of words.
use Rattle.std.specs.Prelude.{Bool, true, false, List, [], ◌∷◌, ◌++◌, map, ◌≡◌, ℕ, ℤ, pos}
use Rattle.std.proofs.Math.Option.{some}
use Rattle.whole.specs.Values.{pairs}
use Rattle.rules.specs.Cases.Expected.{minus}
use Rattle.rules.specs.Cases.Limits.{case_a, case_g, free, lower_only, upper_only, less_than, more_than, two, zeros}
use Rattle.rules.specs.Evidence.{checked}
use Rattle.rules.specs.Keeping.Words.{live_words}
use Rattle.rules.specs.Problem.{inner, problem}
use Rattle.rules.specs.Runs.Session.{Session, check_answer, is_on, opened, rested, switch_refusal, switched}
use Rattle.rules.specs.Runs.Violation.{Violation, first_violation, nothing_shown, session_violation, shown_by}
use Rattle.rules.specs.Step.{Side, above, below, leaves}

pub data Operation : Type 0 where
  switch : ℕ → Side → Bool → Operation
  check : Operation
  look : Operation

-- a switch's number; a check's answer, and the checker's number of it for the words with the limits that are on; a
-- look's first violation
pub data Reply : Type 0 where
  number : ℕ → Reply
  answers : List ℤ → ℕ → Reply
  shows : Violation → Reply

pub record SessionCase : Type 0 where
  pub words : List ℤ
  pub script : List Operation
  pub replies : List Reply

unfoldable pub replies_to : List ℤ → Session (ℤ × ℤ) → List Operation → List Reply
replies_to ws A [] = []
replies_to ws A (switch v σ on ∷ ops) = number (switch_refusal A v σ on) ∷ replies_to ws (switched pairs A v σ on) ops
replies_to ws A (check ∷ ops) =
    answers (check_answer A) (checked (live_words (is_on A) ws) (check_answer A)) ∷ replies_to ws (rested pairs A) ops
replies_to ws A (look ∷ ops) = shows (session_violation A) ∷ replies_to ws A ops

abbrev pub SessionsRight : List SessionCase → Type 0
SessionsRight cs =
    map (λ c. replies_to c.words (opened pairs (inner (problem c.words))) c.script) cs
    ≡ map (λ c. c.replies) cs

abbrev on_at : ℕ → Side → Operation
on_at v σ = switch v σ true

abbrev off_at : ℕ → Side → Operation
off_at v σ = switch v σ false

-- variable v has to rise, or to fall, by x over d
abbrev must_rise : ℕ → ℤ → ℤ × ℤ → Violation
must_rise v d x = shown_by d (some (leaves v below x))

abbrev must_fall : ℕ → ℤ → ℤ × ℤ → Violation
must_fall v d x = shown_by d (some (leaves v above x))

-- x >= 5, 2x + y <= 12, y >= 3, x - 3y <= 2 (worked step by step in lecture notes)
abbrev atoms : SessionCase
atoms = record {
  words = two (pos 2) (pos 2) ++ two (pos 2) (pos 1) ++ two (pos 1) (minus 3)
      ++ lower_only (pos 5) ++ lower_only (pos 3) ++ upper_only (pos 12) ++ upper_only (pos 2);
  script = on_at 0 below ∷ on_at 1 below ∷ on_at 3 above ∷ check
      ∷ on_at 2 above ∷ check
      ∷ on_at 0 below ∷ on_at 0 above ∷ on_at 9 below ∷ off_at 3 below
      ∷ off_at 0 below ∷ off_at 0 below ∷ check ∷ [];
  replies = number 0 ∷ number 0 ∷ number 0
      ∷ answers (pos 1 ∷ pos 0 ∷ pos 1 ∷ pos 5 ∷ pos 3 ∷ pos 13 ∷ minus 4 ∷ zeros 4) 8
      ∷ number 0
      ∷ answers (pos 2 ∷ pos 0 ∷ pos 0 ∷ pos 2 ∷ pos 1 ∷ pos 0 ∷ pos 0 ∷ pos 0 ∷ pos 0 ∷ pos 1 ∷ pos 0 ∷ []) 8
      ∷ number 43 ∷ number 42 ∷ number 41 ∷ number 42
      ∷ number 0 ∷ number 44 ∷ answers (pos 1 ∷ pos 1 ∷ pos 2 ∷ pos 9 ∷ pos 6 ∷ pos 24 ∷ minus 9 ∷ zeros 4) 8 ∷ [];
}

-- x from 3 to 1 and a row 2x >= 5: limits that conflict, a switch that ends the conflict, and a limit switched on whose
-- variable is basic
abbrev crossing : SessionCase
crossing = record {
  words = two (pos 1) (pos 1) ++ (pos 2 ∷ pos 3 ∷ pos 3 ∷ pos 1 ∷ []) ++ lower_only (pos 5);
  script = on_at 0 below ∷ on_at 0 above ∷ check ∷ off_at 0 below ∷ on_at 1 below ∷ check
      ∷ off_at 0 above ∷ check ∷ on_at 0 above ∷ check ∷ [];
  replies = number 0 ∷ number 0 ∷ answers (pos 2 ∷ pos 0 ∷ pos 0 ∷ pos 1 ∷ pos 0 ∷ pos 1 ∷ pos 0 ∷ []) 8
      ∷ number 0 ∷ number 0 ∷ answers (pos 2 ∷ pos 0 ∷ pos 0 ∷ pos 0 ∷ pos 1 ∷ pos 2 ∷ pos 0 ∷ []) 8
      ∷ number 0 ∷ answers (pos 1 ∷ pos 1 ∷ pos 2 ∷ pos 5 ∷ pos 10 ∷ pos 0 ∷ pos 0 ∷ []) 8
      ∷ number 0 ∷ answers (pos 2 ∷ pos 0 ∷ pos 0 ∷ pos 0 ∷ pos 1 ∷ pos 2 ∷ pos 0 ∷ []) 8 ∷ [];
}

-- x > 0 and x <= 0, which conflict together, y < 3 and x + y > 3: a value moves one small amount inside a strict limit,
-- and back; a "cannot" whose total is 0
abbrev strictly : SessionCase
strictly = record {
  words = two (pos 2) (pos 1) ++ two (pos 1) (pos 1)
      ++ (pos 7 ∷ pos 0 ∷ pos 0 ∷ []) ++ less_than (pos 3) ++ more_than (pos 3);
  script = on_at 0 below ∷ check ∷ on_at 0 above ∷ check
      ∷ off_at 0 below ∷ on_at 1 above ∷ on_at 2 below ∷ check
      ∷ off_at 0 above ∷ check ∷ on_at 0 below ∷ check ∷ [];
  replies = number 0 ∷ answers (pos 1 ∷ pos 0 ∷ pos 1 ∷ pos 0 ∷ pos 0 ∷ pos 0 ∷ pos 1 ∷ pos 0 ∷ pos 1 ∷ []) 8
      ∷ number 0 ∷ answers (pos 2 ∷ pos 0 ∷ pos 0 ∷ pos 1 ∷ pos 0 ∷ pos 0 ∷ pos 1 ∷ pos 0 ∷ pos 0 ∷ []) 8
      ∷ number 0 ∷ number 0 ∷ number 0
      ∷ answers (pos 2 ∷ pos 1 ∷ pos 0 ∷ pos 0 ∷ pos 0 ∷ pos 1 ∷ pos 1 ∷ pos 1 ∷ pos 0 ∷ []) 8
      ∷ number 0 ∷ answers (pos 1 ∷ pos 1 ∷ pos 1 ∷ pos 0 ∷ pos 3 ∷ pos 3 ∷ pos 2 ∷ minus 1 ∷ pos 1 ∷ []) 8
      ∷ number 0 ∷ answers (pos 1 ∷ pos 0 ∷ pos 1 ∷ pos 0 ∷ pos 3 ∷ pos 3 ∷ pos 2 ∷ minus 1 ∷ pos 1 ∷ []) 8 ∷ [];
}

-- looks: nothing is on and nothing outside; x + y, by both its limits; once both rows rest at a limit and D is 3, x and
-- y are basic; limits that cross are not asked
abbrev looks : SessionCase
looks = record {
  words = two (pos 2) (pos 2) ++ two (pos 1) (pos 1) ++ two (minus 1) (pos 2)
      ++ upper_only (minus 1) ++ free ++ (pos 3 ∷ pos 2 ∷ pos 1 ∷ []) ++ more_than (pos 1);
  script = look ∷ on_at 2 below ∷ on_at 3 below ∷ look ∷ check ∷ look ∷ on_at 0 above ∷ look ∷ on_at 2 above ∷ look ∷
      [];
  replies = shows (nothing_shown 0) ∷ number 0 ∷ number 0 ∷ shows (must_rise 2 (pos 1) (pos 2, pos 0))
      ∷ answers (pos 1 ∷ pos 2 ∷ pos 3 ∷ pos 3 ∷ pos 3 ∷ pos 6 ∷ pos 3
      ∷ minus 1 ∷ pos 1 ∷ pos 0 ∷ pos 3 ∷ []) 8
      ∷ shows (nothing_shown 0) ∷ number 0 ∷ shows (must_fall 0 (pos 3) (pos 6, minus 1))
      ∷ number 0 ∷ shows (must_fall 0 (pos 3) (pos 6, minus 1)) ∷ [];
}

unfoldable pub session_cases : List SessionCase
session_cases = atoms ∷ crossing ∷ strictly ∷ looks ∷ []

-- ---- the first violation of words

pub record ViolationCase : Type 0 where
  pub words : List ℤ
  pub shown : Violation

abbrev showing : List ℤ → Violation → ViolationCase
showing ws f = record { words = ws; shown = f }

abbrev pub ViolationsRight : List ViolationCase → Type 0
ViolationsRight cs = map (λ c. first_violation c.words) cs ≡ map (λ c. c.shown) cs

unfoldable pub violation_cases : List ViolationCase
violation_cases =
    -- case A: 2 is 0 and should be at least 2, and comes before 4
    showing case_a.words (must_rise 2 (pos 1) (pos 2, pos 0))
    -- x > 0 as a row, x at 0: nothing but the small amount is lacking
    ∷ showing (two (pos 1) (pos 1) ++ (pos 1 ∷ []) ++ free ++ more_than (pos 0)) (must_rise 1 (pos 1) (pos 0, pos 1))
    -- x >= 5 as a limit of x, 2x < 7 as a row: it is 3 and one small amount too high
    ∷ showing (two (pos 1) (pos 1) ++ (pos 2 ∷ []) ++ lower_only (pos 5) ++ less_than (pos 7))
    (must_fall 1 (pos 1) (pos 3, pos 1))
    -- limits that cross are not asked: of case G no variable is basic
    ∷ showing case_g.words (nothing_shown 0)
    -- .. and a row whose limits cross is below the lower one
    ∷ showing (two (pos 1) (pos 1) ++ (pos 2 ∷ []) ++ free ++ (pos 3 ∷ pos 3 ∷ minus 2 ∷ []))
    (must_rise 1 (pos 1) (pos 3, pos 0))
    -- refused with their number, a blank row too
    ∷ showing [] (nothing_shown 1)
    ∷ showing (two (pos 1) (pos 1) ++ zeros 7) (nothing_shown 10) ∷ []
