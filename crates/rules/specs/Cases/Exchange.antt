-- docs/formats/smtlib.md: whole texts, byte for byte, the refusals of the writer, and texts that are read back.
use Prim.Native.String
use Prim.Native.String.{String}
use Rattle.std.specs.Prelude.{List, [], ◌++◌, ◌∷◌, ℕ, pos, ℤ}
use Rattle.rules.specs.Cases.Expected.{minus}
use Rattle.rules.specs.Cases.Limits.{case_a, case_h, case_i, case_inside, between, free, less_than, lower_only, two}
use Rattle.rules.specs.Cases.Limits.{upper_only}
use Rattle.rules.specs.Exchange.Reader.{TextOutcome, words, refused_at}

-- n 1: a term alone; both limits strict, and numbers below 0
abbrev one : List ℤ
one = two (pos 1) (pos 2) ++ (minus 1000 ∷ pos 1 ∷ []) ++ (pos 15 ∷ minus 5 ∷ pos 0 ∷ [])
    ++ upper_only (minus 30000) ++ (pos 7 ∷ pos 0 ∷ pos 12 ∷ [])

-- coefficients of 0; no limits but the upper one of a problem variable, and a row's upper one alone strict
abbrev sparse : List ℤ
sparse = two (pos 3) (pos 1) ++ (pos 0 ∷ minus 4 ∷ pos 0 ∷ [])
    ++ free ++ between (minus 1) (minus 1) ++ less_than (minus 1) ++ (pos 11 ∷ pos 3 ∷ pos 4 ∷ [])

-- words, in the order of their texts
unfoldable pub exchanges : List (List ℤ)
exchanges = case_a.words ∷ case_inside.words ∷ one ∷ sparse ∷ case_h.words ∷ []

-- a text of several lines
unfoldable pub lined : List String → String
lined [] = ""
lined (s ∷ ss) = String.◌++◌ s (String.◌++◌ "\n" (lined ss))

unfoldable pub exchange_texts : List String
exchange_texts =
    -- A: x+y>=2, 2x-y>=0, -x+2y>=1
    lined ("(set-logic QF_LRA)"
    ∷ "(declare-const x0 Real)" ∷ "(declare-const x1 Real)"
    ∷ "(declare-const r0 Real)" ∷ "(declare-const r1 Real)" ∷ "(declare-const r2 Real)"
    ∷ "(assert (= r0 (+ (* 1 x0) (* 1 x1))))"
    ∷ "(assert (= r1 (+ (* 2 x0) (* (- 1) x1))))"
    ∷ "(assert (= r2 (+ (* (- 1) x0) (* 2 x1))))"
    ∷ "(assert (>= r0 2))" ∷ "(assert (>= r1 0))" ∷ "(assert (>= r2 1))"
    ∷ "(check-sat)" ∷ [])
    -- x>0, y<3, x+y>3
    ∷ lined ("(set-logic QF_LRA)"
    ∷ "(declare-const x0 Real)" ∷ "(declare-const x1 Real)" ∷ "(declare-const r0 Real)"
    ∷ "(assert (= r0 (+ (* 1 x0) (* 1 x1))))"
    ∷ "(assert (> x0 0))" ∷ "(assert (< x1 3))" ∷ "(assert (> r0 3))"
    ∷ "(check-sat)" ∷ [])
    -- -5<x<0, -1000x<=-30000, 0<x<=12
    ∷ lined ("(set-logic QF_LRA)"
    ∷ "(declare-const x0 Real)" ∷ "(declare-const r0 Real)" ∷ "(declare-const r1 Real)"
    ∷ "(assert (= r0 (* (- 1000) x0)))" ∷ "(assert (= r1 (* 1 x0)))"
    ∷ "(assert (> x0 (- 5)))" ∷ "(assert (< x0 0))" ∷ "(assert (<= r0 (- 30000)))"
    ∷ "(assert (> r1 0))" ∷ "(assert (<= r1 12))"
    ∷ "(check-sat)" ∷ [])
    -- y=-1, z<-1, 3<=-4y<4
    ∷ lined ("(set-logic QF_LRA)"
    ∷ "(declare-const x0 Real)" ∷ "(declare-const x1 Real)" ∷ "(declare-const x2 Real)" ∷ "(declare-const r0 Real)"
    ∷ "(assert (= r0 (+ (* 0 x0) (* (- 4) x1) (* 0 x2))))"
    ∷ "(assert (>= x1 (- 1)))" ∷ "(assert (<= x1 (- 1)))" ∷ "(assert (< x2 (- 1)))"
    ∷ "(assert (>= r0 3))" ∷ "(assert (< r0 4))"
    ∷ "(check-sat)" ∷ [])
    -- H: no row, no limit
    ∷ lined ("(set-logic QF_LRA)" ∷ "(declare-const x0 Real)" ∷ "(check-sat)" ∷ [])
    ∷ []

-- words, the room, and the number of the refusal; the text of H has 55 bytes
unfoldable pub exchange_refusals : List (List ℤ × (ℕ × ℕ))
exchange_refusals =
    (case_h.words, (55, 0)) ∷ (case_h.words, (54, 7)) ∷ (case_h.words, (0, 7)) ∷ (case_h.words, (56, 0))
    -- a blank row comes before a slice that is too short, and a missing word before both
    ∷ (case_i.words, (0, 10)) ∷ ([], (0, 1)) ∷ (two (pos 1) (pos 1), (0, 3)) ∷ (two (pos 9) (pos 0), (0, 2))
    ∷ (two (pos 1) (pos 1) ++ (pos 1001 ∷ []) ++ free ++ free, (0, 4))
    ∷ (two (pos 1) (pos 0) ++ (pos 16 ∷ pos 0 ∷ pos 0 ∷ []), (0, 5))
    ∷ (two (pos 1) (pos 0) ++ lower_only (pos 30001), (0, 6)) ∷ []

-- ---- texts read by hand, each with its words or the place at which it is refused

unfoldable pub readings : List (String × TextOutcome)
readings =
    -- white space and comments are free between tokens, none too; a comment ends at 10, at 13, and with the text
    (";a\n( set-logic QF_LRA);b\n(declare-const x0\nReal)\t(check-sat) ;end", words case_h.words)
    ∷ (";a\r(set-logic;((\n QF_LRA)(\rdeclare-const x0 Real)(check-sat);", words case_h.words)
    -- texts that end early: the length; inside of a word it is that word's place
    ∷ ("", refused_at 0)
    ∷ ("(set-log", refused_at 1)
    ∷ ("(set-logic QF_LRA) ;", refused_at 20)
    ∷ []

-- the logic and a declaration, 41 bytes, and texts that stand behind them
unfoldable pub one_column : String
one_column = "(set-logic QF_LRA)(declare-const x0 Real)"

unfoldable pub readings_behind : List (String × TextOutcome)
readings_behind =
    -- white space and comments are free between tokens, none too; a comment ends at 10, at 13, and with the text
    ("(check-sat)", words case_h.words)
    -- texts that end early: the length; inside of a word it is that word's place
    ∷ ("(check-sat", refused_at 51)
    -- something behind the end
    ∷ ("(check-sat))", refused_at 52)
    -- names out of order; a second limit; a limit out of order; a lower limit where only the upper one is left
    ∷ ("(declare-const x2 Real)", refused_at 56)
    ∷ ("(declare-const r0 Real)(declare-const x1 Real)", refused_at 79)
    ∷ ("(assert (>= x0 5))(assert (> x0 5))", refused_at 68)
    ∷ ("(declare-const x1 Real)(assert (<= x1 5))(assert (<= x0 5))", refused_at 83)
    ∷ ("(declare-const x1 Real)(assert (>= x1 5))(assert (>= x0 5))", refused_at 91)
    ∷ ("(declare-const x1 Real)(declare-const x2 Real)(assert (< x1 5))(assert (> x0 5))", refused_at 115)
    -- numbers: a zero in front, a minus sign of its own, minus 0, and beyond their range
    ∷ ("(assert (>= x0 05))", refused_at 56)
    ∷ ("(assert (>= x0 -5))", refused_at 56)
    ∷ ("(assert (>= x0 (- 0)))", refused_at 59)
    ∷ ("(assert (>= x0 30001))", refused_at 56)
    ∷ ("(declare-const r0 Real)(assert (= r0 (* (- 1001) x0)))", refused_at 84)
    -- a blank row, at its last 0; one column has no sum
    ∷ ("(declare-const r0 Real)(assert (= r0 (* 0 x0)))", refused_at 81)
    ∷ ("(declare-const r0 Real)(assert (= r0 (+ (* 1 x0))))", refused_at 79)
    ∷ []
