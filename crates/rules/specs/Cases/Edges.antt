-- docs/RULES.md, "Runs worked by hand": calls at the edges, each with the words that were lent for the output and what
-- stands there afterwards. Every refusal number once or more, and both sides of each bound; and the sizes themselves.
use Rattle.std.specs.Prelude.{List, [], ◌∷◌, ◌++◌, ℕ, zero, suc, ℤ, pos, length}
use Rattle.whole.specs.Values.{pairs}
use Rattle.rules.specs.Answer.{written}
use Rattle.rules.specs.Cases.Expected.{minus}
use Rattle.rules.specs.Cases.Limits.{case_a, case_g, case_h, less_than, lower_only, more_than, two, upper_only, zeros}
use Rattle.rules.specs.Cases.Program.{out_of_range}
use Rattle.rules.specs.Problem.{inner, problem}
use Rattle.rules.specs.Refusal.{refusal}
use Rattle.rules.specs.Sizes
use Rattle.rules.specs.Runs.Session.{Session, check_output, check_refusal, opened}
use Rattle.rules.specs.Runs.Slices.{Slice, begun, slice_answer, slice_length, slice_output, slice_refusal}
use Rattle.rules.specs.Times.Answer.{times_written}
use Rattle.rules.specs.Times.Words.{time_refusal}

-- words, the output before, the number, and the output afterwards
pub record Call : Type 0 where
  pub words : List ℤ
  pub before : List ℤ
  pub number : ℕ
  pub after : List ℤ

-- refused: the output stays
abbrev kept : List ℤ → List ℤ → ℕ → Call
kept ws before k = record { words = ws; before = before; number = k; after = before }

abbrev answered : List ℤ → List ℤ → List ℤ → Call
answered ws before after = record { words = ws; before = before; number = 0; after = after }

-- an output of so many words, each of another number
unfoldable pub lent : ℕ → List ℤ
lent zero = []
lent (suc k) = pos (suc k) ∷ lent k

-- the number, and the output
abbrev pub wanted_call : Call → List ℤ
wanted_call c = pos c.number ∷ c.after

-- ---- the solver

abbrev solved_by : ℕ → List ℤ → List ℤ → List ℤ
solved_by k ws before = pos k ∷ written k ws before

unfoldable pub solver_call : Call → List ℤ
solver_call c = solved_by (refusal c.words (length c.before)) c.words c.before

-- one variable, one row with coefficient c, and the limits of both
abbrev rowed : ℤ → List ℤ → List ℤ → List ℤ
rowed c limits others = two (pos 1) (pos 1) ++ (c ∷ []) ++ limits ++ others

-- kind, lower and upper
abbrev limit : ℕ → ℤ → ℤ → List ℤ
limit kind l u = pos kind ∷ l ∷ u ∷ []

-- one variable with these limits, and what it is: its value and its small part
abbrev alone : List ℤ → ℤ → ℤ → Call
alone limits x y = answered (two (pos 1) (pos 0) ++ limits) (lent 5) (pos 1 ∷ pos 0 ∷ pos 1 ∷ x ∷ y ∷ [])

unfoldable pub solver_calls : List Call
solver_calls =
    -- no word, one word; n and m outside their ranges; a word too few, and one too many
    kept [] (lent 3) 1 ∷ kept (pos 1 ∷ []) (lent 3) 1
    ∷ kept (two (minus 1) (pos 0)) (lent 3) 2 ∷ kept (two (pos 1) (minus 1)) (lent 3) 2
    ∷ kept (two (pos 1) (pos 0) ++ zeros 2) (lent 5) 3 ∷ kept (two (pos 1) (pos 0) ++ zeros 4) (lent 5) 3
    -- a coefficient comes before a kind, a kind before a limit, a limit before a blank row, that before the room
    ∷ kept (rowed (pos 1001) (limit 4 (pos 0) (pos 0)) (zeros 3)) (lent 7) 4
    ∷ kept (rowed (minus 1001) (limit 16 (pos 0) (pos 0)) (zeros 3)) (lent 7) 4
    ∷ kept (rowed (pos 1) (limit 16 (pos 0) (pos 0)) (limit 1 (pos 30001) (pos 0))) (lent 7) 5
    ∷ kept (rowed (pos 0) (limit 1 (minus 30001) (pos 0)) (zeros 3)) (lent 7) 6
    ∷ kept (rowed (pos 0) (limit 2 (pos 1) (pos 0)) (zeros 3)) (lent 7) 6
    ∷ kept (rowed (pos 0) (zeros 3) (zeros 3)) (lent 6) 10
    -- a word too few for the answer, just enough, and two more, which stay
    ∷ kept case_h.words (lent 4) 7
    ∷ answered case_h.words (lent 5) (pos 1 ∷ pos 0 ∷ pos 1 ∷ pos 0 ∷ pos 0 ∷ [])
    ∷ answered case_h.words (lent 7) (pos 1 ∷ pos 0 ∷ pos 1 ∷ pos 0 ∷ pos 0 ∷ pos 2 ∷ pos 1 ∷ [])
    -- eight variables; the least coefficient, and limits of both signs at their ends
    ∷ answered (two (pos 8) (pos 0) ++ zeros 24) (lent 19) (pos 1 ∷ pos 0 ∷ pos 1 ∷ zeros 16)
    ∷ answered (rowed (minus 1000) (limit 3 (minus 30000) (pos 30000)) (zeros 3)) (lent 7)
    (pos 1 ∷ pos 0 ∷ pos 1 ∷ zeros 4)
    -- out of range after two pivots: zeros
    ∷ answered out_of_range (lent 21) (pos 3 ∷ pos 2 ∷ pos 0 ∷ zeros 18)
    -- where a variable starts: at 0, though it has a limit; at its lower limit; at its upper one
    ∷ alone (lower_only (minus 5)) (pos 0) (pos 0) ∷ alone (upper_only (pos 5)) (pos 0) (pos 0)
    ∷ alone (limit 3 (minus 5) (pos 5)) (pos 0) (pos 0) ∷ alone (limit 3 (pos 2) (pos 5)) (pos 2) (pos 0)
    ∷ alone (limit 3 (minus 5) (minus 2)) (minus 2) (pos 0) ∷ alone (upper_only (minus 2)) (minus 2) (pos 0)
    ∷ alone (limit 3 (pos 0) (pos 5)) (pos 0) (pos 0) ∷ alone (limit 3 (minus 5) (pos 0)) (pos 0) (pos 0)
    -- .. and with marks
    ∷ alone (more_than (minus 1)) (pos 0) (pos 0) ∷ alone (limit 15 (pos 0) (pos 5)) (pos 0) (pos 1)
    ∷ alone (limit 15 (minus 5) (pos 0)) (pos 0) (minus 1) ∷ alone (less_than (minus 2)) (minus 2) (minus 1)
    ∷ []

-- ---- the checker

-- words, an answer and its number
pub record Checking : Type 0 where
  pub words : List ℤ
  pub answer : List ℤ
  pub number : ℕ

abbrev checks : List ℤ → List ℤ → ℕ → Checking
checks ws a k = record { words = ws; answer = a; number = k }

-- of a free variable: verdict, count, denominator and numerator
abbrev free : ℤ → ℤ → ℤ → ℕ → Checking
free verdict d x = checks case_h.words (verdict ∷ minus 1 ∷ d ∷ x ∷ pos 0 ∷ [])

-- of a variable whose lower limit is 1 and whose upper is 0: word 2 and two multipliers
abbrev crossing : ℤ → ℤ → ℤ → ℕ → Checking
crossing d l u = checks case_g.words (pos 2 ∷ pos 0 ∷ d ∷ l ∷ u ∷ [])

unfoldable pub checkings : List Checking
checkings =
    -- refused; too short; verdicts that have no evidence
    checks (two (pos 9) (pos 0)) [] 2 ∷ checks case_h.words (lent 4) 7
    ∷ free (pos 0) (pos 1) (pos 0) 9 ∷ free (pos 3) (pos 1) (pos 0) 9
    -- the denominator, and the numerator
    ∷ free (pos 1) (pos 0) (pos 0) 9 ∷ free (pos 1) (pos 2147483647) (pos 0) 8
    ∷ free (pos 1) (pos 2147483648) (pos 0) 9
    ∷ free (pos 1) (pos 1) (pos 515396075280000) 8 ∷ free (pos 1) (pos 1) (pos 515396075280001) 9
    ∷ free (pos 1) (pos 1) (minus 515396075280000) 8 ∷ free (pos 1) (pos 1) (minus 515396075280001) 9
    -- word 2, and the multipliers: at their ends, past them, below 0, unlike, and none
    ∷ crossing (pos 0) (pos 1) (pos 1) 8 ∷ crossing (pos 1) (pos 1) (pos 1) 9
    ∷ crossing (pos 0) (pos 2147483647) (pos 2147483647) 8 ∷ crossing (pos 0) (pos 2147483648) (pos 2147483648) 9
    ∷ crossing (pos 0) (minus 1) (minus 1) 9 ∷ crossing (pos 0) (pos 2) (pos 1) 9 ∷ crossing (pos 0) (pos 0) (pos 0) 9
    -- a multiplier of a limit that is missing
    ∷ checks (two (pos 1) (pos 0) ++ lower_only (pos 1)) (pos 2 ∷ pos 0 ∷ pos 0 ∷ pos 1 ∷ pos 1 ∷ []) 9
    ∷ []

-- ---- time rows

abbrev timed_by : ℕ → List ℤ → List ℤ → List ℤ
timed_by k ws before = pos k ∷ times_written k ws [] before

unfoldable pub time_call : Call → List ℤ
time_call c = timed_by (time_refusal c.words (length c.before)) c.words c.before

-- x, y, strict and c of the one row of n vertices
abbrev one_of : ℕ → ℤ → ℤ → ℤ → ℤ → List ℤ
one_of n x y strict c = pos n ∷ pos 1 ∷ x ∷ y ∷ strict ∷ c ∷ []

unfoldable pub time_calls : List Call
time_calls =
    kept [] (lent 3) 11 ∷ kept (pos 1 ∷ []) (lent 3) 11
    -- vertices and rows: none, the most, one more; 17 says that the words passed
    ∷ kept (two (pos 0) (pos 0)) (lent 3) 12 ∷ kept (two (pos 64) (pos 0)) (lent 3) 17
    ∷ kept (two (pos 65) (pos 0)) (lent 3) 12 ∷ kept (two (pos 1) (minus 1)) (lent 3) 12
    ∷ kept (two (pos 1) (pos 256) ++ zeros 1024) (lent 3) 17
    ∷ kept (two (pos 1) (pos 257) ++ zeros 1028) (lent 3) 12
    -- a word too few, and one too many
    ∷ kept (two (pos 1) (pos 1) ++ zeros 3) (lent 3) 13 ∷ kept (two (pos 1) (pos 1) ++ zeros 5) (lent 3) 13
    -- an end comes before a strict word, that before c, c before the room
    ∷ kept (one_of 2 (pos 2) (pos 0) (pos 2) (pos 0)) (lent 6) 14
    ∷ kept (one_of 2 (pos 0) (minus 1) (pos 0) (pos 0)) (lent 6) 14
    ∷ kept (one_of 2 (pos 1) (pos 0) (pos 2) (pos 30001)) (lent 6) 15
    ∷ kept (one_of 2 (pos 0) (pos 1) (minus 1) (pos 0)) (lent 6) 15
    ∷ kept (one_of 2 (pos 0) (pos 1) (pos 0) (pos 30001)) (lent 5) 16
    ∷ kept (one_of 2 (pos 0) (pos 1) (pos 0) (minus 30001)) (lent 6) 16
    ∷ kept (one_of 2 (pos 0) (pos 1) (pos 0) (minus 30000)) (lent 5) 17
    -- x - y <= -30,000 and 30,000; two words more than the answer has stay
    ∷ answered (one_of 2 (pos 0) (pos 1) (pos 0) (minus 30000)) (lent 8)
    (pos 1 ∷ pos 2 ∷ pos 0 ∷ pos 30000 ∷ pos 0 ∷ pos 0 ∷ pos 2 ∷ pos 1 ∷ [])
    ∷ answered (one_of 2 (pos 0) (pos 1) (pos 1) (pos 30000)) (lent 6) (pos 1 ∷ pos 2 ∷ zeros 4)
    -- x - y < 0: y is one small amount later
    ∷ answered (one_of 2 (pos 0) (pos 1) (pos 1) (pos 0)) (lent 6)
    (pos 1 ∷ pos 2 ∷ pos 0 ∷ pos 0 ∷ pos 0 ∷ pos 1 ∷ [])
    ∷ []

-- ---- a check of a session that was just opened, and a continue of a run that was just begun

abbrev checked_by : ℕ → Session (ℤ × ℤ) → List ℤ → List ℤ
checked_by k A before = pos k ∷ check_output k A before

unfoldable pub check_call : Call → List ℤ
check_call c = let A : Session (ℤ × ℤ) = opened pairs (inner (problem c.words)) in
    checked_by (check_refusal A (length c.before)) A c.before

-- of a variable whose limits cross, with both off
unfoldable pub check_calls : List Call
check_calls =
    kept case_g.words (lent 4) 7
    ∷ answered case_g.words (lent 7) (pos 1 ∷ pos 0 ∷ pos 1 ∷ pos 0 ∷ pos 0 ∷ pos 2 ∷ pos 1 ∷ []) ∷ []

-- with one pivot to spend
unfoldable pub slice_call : Call → List ℤ
slice_call c = let S : Slice (ℤ × ℤ) = begun pairs (inner (problem c.words)) in
    pos (slice_refusal S (length c.before)) ∷ slice_output (slice_answer S 1) (slice_length S) c.before

unfoldable pub slice_calls : List Call
slice_calls =
    -- two pivots are needed: no answer, with room and without
    kept case_a.words (lent 13) 0 ∷ kept case_a.words (lent 12) 7
    ∷ answered case_h.words (lent 7) (pos 1 ∷ pos 0 ∷ pos 1 ∷ pos 0 ∷ pos 0 ∷ pos 2 ∷ pos 1 ∷ []) ∷ []

-- ---- sizes

-- each size that docs/RULES.md, docs/formats or include/scatterflock.h tells, beside the number that stands there
unfoldable pub sizes_told : List (ℕ × ℕ)
sizes_told =
    -- the limit problem, its answer and evidence about it
    (Sizes.most_columns, 8) ∷ (Sizes.most_rows, 24) ∷ (Sizes.most_variables, 32) ∷ (Sizes.most_words, 290)
    ∷ (Sizes.most_bytes, 1160) ∷ (Sizes.most_answer, 67)
    ∷ (Sizes.largest_coefficient, 1000) ∷ (Sizes.largest_limit, 30000) ∷ (Sizes.largest_number, 2147483647)
    ∷ (Sizes.largest_numerator, 515396075280000) ∷ (Sizes.largest_small, 17179869176)
    ∷ (Sizes.largest_shortfall, 579820584690000)
    -- time rows
    ∷ (Sizes.most_vertices, 64) ∷ (Sizes.most_time_rows, 256) ∷ (Sizes.largest_length, 30000)
    -- a day's file, what is printed of it, and its sheet
    ∷ (Sizes.most_file_words, 16384) ∷ (Sizes.first_bodies, 64) ∷ (Sizes.first_rows, 16) ∷ (Sizes.second_bodies, 48)
    ∷ (Sizes.most_bodies, 64) ∷ (Sizes.most_text, 1955) ∷ (Sizes.most_day_text, 125120) ∷ (Sizes.most_sheet, 857)
    -- SMT-LIB text, written and read
    ∷ (Sizes.most_script Sizes.most_rows, 6199) ∷ (Sizes.most_input, 65536) ∷ []
