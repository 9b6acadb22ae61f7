-- docs/RULES.md, "Runs worked by hand": cases A to I, strict limits and the edges, as words and what is expected.
use Rattle.std.specs.Prelude.{List, [], ◌∷◌, ◌++◌, ℕ, ℤ, pos, replicate}
use Rattle.rules.specs.Cases.Expected.{Case, answers, minus, refused}

-- ---- how words are written

-- the limits of one variable: kind, lower, upper
abbrev pub free : List ℤ
free = pos 0 ∷ pos 0 ∷ pos 0 ∷ []

abbrev pub lower_only : ℤ → List ℤ
lower_only l = pos 1 ∷ l ∷ pos 0 ∷ []

abbrev pub upper_only : ℤ → List ℤ
upper_only u = pos 2 ∷ pos 0 ∷ u ∷ []

abbrev pub between : ℤ → ℤ → List ℤ
between l u = pos 3 ∷ l ∷ u ∷ []

-- strict ones
abbrev pub more_than : ℤ → List ℤ
more_than l = pos 5 ∷ l ∷ pos 0 ∷ []

abbrev pub less_than : ℤ → List ℤ
less_than u = pos 10 ∷ pos 0 ∷ u ∷ []

-- n and m, or a row of two coefficients
abbrev pub two : ℤ → ℤ → List ℤ
two a b = a ∷ b ∷ []

abbrev pub zeros : ℕ → List ℤ
zeros k = replicate k (pos 0)

abbrev gives : List ℤ → List ℤ → Case
gives ws a = record { words = ws; expected = answers a }

abbrev turned_away : List ℤ → ℕ → Case
turned_away ws k = record { words = ws; expected = refused k }

-- ---- the cases

-- x+y>=2, 2x-y>=0, -x+2y>=1: can, 2 pivots, over 3: 3 3 6 3 3
abbrev pub case_a : Case
case_a = gives
    (two (pos 2) (pos 3) ++ two (pos 1) (pos 1) ++ two (pos 2) (minus 1) ++ two (minus 1) (pos 2)
    ++ free ++ free ++ lower_only (pos 2) ++ lower_only (pos 0) ++ lower_only (pos 1))
    (pos 1 ∷ pos 2 ∷ pos 3 ∷ pos 3 ∷ pos 3 ∷ pos 6 ∷ pos 3 ∷ pos 3 ∷ zeros 5)

-- x+y>=0, -2x+y>=2, -10x+y>=-5: can, 2, over 3: -2 2 0 6 22
abbrev case_b : Case
case_b = gives
    (two (pos 2) (pos 3) ++ two (pos 1) (pos 1) ++ two (minus 2) (pos 1) ++ two (minus 10) (pos 1)
    ++ free ++ free ++ lower_only (pos 0) ++ lower_only (pos 2) ++ lower_only (minus 5))
    (pos 1 ∷ pos 2 ∷ pos 3 ∷ minus 2 ∷ pos 2 ∷ pos 0 ∷ pos 6 ∷ pos 22 ∷ zeros 5)

-- x+y>=0, -x-2y>=2, -x+y>=1: cannot, 2, row lowers 3 2 1
abbrev pub case_c : Case
case_c = gives
    (two (pos 2) (pos 3) ++ two (pos 1) (pos 1) ++ two (minus 1) (minus 2) ++ two (minus 1) (pos 1)
    ++ free ++ free ++ lower_only (pos 0) ++ lower_only (pos 2) ++ lower_only (pos 1))
    (pos 2 ∷ pos 2 ∷ pos 0 ∷ pos 0 ∷ pos 0 ∷ pos 3 ∷ pos 2 ∷ pos 1 ∷ zeros 5)

-- -1<=x1<=0, -4<=x2<=0, x1+2x2 in -5..-4, 2x1+x2 in -7..1: can, 2, over 2: -2 -3 -8 -7
abbrev case_d : Case
case_d = gives
    (two (pos 2) (pos 2) ++ two (pos 1) (pos 2) ++ two (pos 2) (pos 1)
    ++ between (minus 1) (pos 0) ++ between (minus 4) (pos 0) ++ between (minus 5)
    (minus 4) ++ between (minus 7) (pos 1))
    (pos 1 ∷ pos 2 ∷ pos 2 ∷ minus 2 ∷ minus 3 ∷ minus 8 ∷ minus 7 ∷ zeros 4)

-- -x+y<=1, y<=4, -x-y<=-6, 3x-y<=7, all as rows: can, 2, over 4: 13 11 -2 11 -24 28
abbrev case_e : Case
case_e = gives
    (two (pos 2) (pos 4) ++ two (minus 1) (pos 1) ++ two (pos 0) (pos 1)
    ++ two (minus 1) (minus 1) ++ two (pos 3) (minus 1)
    ++ free ++ free ++ upper_only (pos 1) ++ upper_only (pos 4) ++ upper_only (minus 6) ++ upper_only (pos 7))
    (pos 1 ∷ pos 2 ∷ pos 4 ∷ pos 13 ∷ pos 11 ∷ minus 2 ∷ pos 11 ∷ minus 24 ∷ pos 28 ∷ zeros 6)

-- x>=2, y>=2 as limits, row x+y<=3: cannot, 0, lowers of x and y 1, upper of the row 1
abbrev pub case_f : Case
case_f = gives
    (two (pos 2) (pos 1) ++ two (pos 1) (pos 1) ++ lower_only (pos 2) ++ lower_only (pos 2) ++ upper_only (pos 3))
    (pos 2 ∷ pos 0 ∷ pos 0 ∷ pos 1 ∷ pos 1 ∷ pos 0 ∷ pos 0 ∷ pos 0 ∷ pos 1 ∷ [])

-- n 1, m 0, lower 1, upper 0: cannot, 0, lower 1, upper 1
abbrev pub case_g : Case
case_g = gives (two (pos 1) (pos 0) ++ between (pos 1) (pos 0)) (pos 2 ∷ pos 0 ∷ pos 0 ∷ pos 1 ∷ pos 1 ∷ [])

-- n 1, m 0, kind 0: can, 0, over 1: 0
abbrev pub case_h : Case
case_h = gives (two (pos 1) (pos 0) ++ free) (pos 1 ∷ pos 0 ∷ pos 1 ∷ pos 0 ∷ pos 0 ∷ [])

-- one row 0x >= 1: refused, as a blank row
abbrev pub case_i : Case
case_i = turned_away (two (pos 1) (pos 1) ++ (pos 0 ∷ []) ++ free ++ lower_only (pos 1)) 10

-- ---- strict limits

-- x>0: can, 0, over 1: 0, small part 1
abbrev case_more : Case
case_more = gives (two (pos 1) (pos 0) ++ more_than (pos 0)) (pos 1 ∷ pos 0 ∷ pos 1 ∷ pos 0 ∷ pos 1 ∷ [])

-- 5<x<=5: cannot, 0, lower 1, upper 1
abbrev case_none : Case
case_none = gives (two (pos 1) (pos 0) ++ (pos 7 ∷ pos 5 ∷ pos 5 ∷ [])) (pos 2 ∷ pos 0 ∷ pos 0 ∷ pos 1 ∷ pos 1 ∷ [])

-- x>0, y<3, x+y>3: can, 1, over 1: 3 0 3, small parts 1 0 1
abbrev pub case_inside : Case
case_inside = gives
    (two (pos 2) (pos 1) ++ two (pos 1) (pos 1) ++ more_than (pos 0) ++ less_than (pos 3) ++ more_than (pos 3))
    (pos 1 ∷ pos 1 ∷ pos 1 ∷ pos 3 ∷ pos 0 ∷ pos 3 ∷ pos 1 ∷ pos 0 ∷ pos 1 ∷ [])

-- x<=0, y<3, x+y>=3: cannot, 1, lower of the row 1, uppers of x and y 1; the limits sum to 0, and one is strict
abbrev pub case_touching : Case
case_touching = gives
    (two (pos 2) (pos 1) ++ two (pos 1) (pos 1) ++ upper_only (pos 0) ++ less_than (pos 3) ++ lower_only (pos 3))
    (pos 2 ∷ pos 1 ∷ pos 0 ∷ pos 0 ∷ pos 0 ∷ pos 1 ∷ pos 1 ∷ pos 1 ∷ pos 0 ∷ [])

-- 0<2x+3y<1, 3x-2y>0: can, 1, over 2: 0 0 0 0, small parts 1 0 2 3
abbrev case_over : Case
case_over = gives
    (two (pos 2) (pos 2) ++ two (pos 2) (pos 3) ++ two (pos 3) (minus 2)
    ++ free ++ free ++ (pos 15 ∷ pos 0 ∷ pos 1 ∷ []) ++ more_than (pos 0))
    (pos 1 ∷ pos 1 ∷ pos 2 ∷ zeros 4 ++ (pos 1 ∷ pos 0 ∷ pos 2 ∷ pos 3 ∷ []))

-- x<0, row 4x: can, 0, over 1: 0 0 0, small parts -1 0 -4
abbrev case_less : Case
case_less = gives
    (two (pos 2) (pos 1) ++ two (pos 4) (pos 0) ++ less_than (pos 0) ++ free ++ free)
    (pos 1 ∷ pos 0 ∷ pos 1 ∷ zeros 3 ++ (minus 1 ∷ pos 0 ∷ minus 4 ∷ []))

-- ---- the edges

-- one variable, one row with coefficient c, and limits of the row
abbrev one_row : ℤ → List ℤ → List ℤ
one_row c limits = two (pos 1) (pos 1) ++ (c ∷ []) ++ free ++ limits

abbrev edges : List Case
edges =
    -- a coefficient of 1,000 and a limit of 30,000 pass; 1,001 and 30,001 do not
    gives (one_row (pos 1000) (upper_only (pos 30000))) (pos 1 ∷ pos 0 ∷ pos 1 ∷ zeros 4)
    ∷ turned_away (one_row (pos 1001) free) 4
    ∷ turned_away (one_row (pos 1) (upper_only (pos 30001))) 6
    -- n 9, n 0
    ∷ turned_away (two (pos 9) (pos 0) ++ zeros 27) 2
    ∷ turned_away (two (pos 0) (pos 0)) 2
    -- m 16 passes, and m 24; m 25 does not
    ∷ gives (two (pos 1) (pos 16) ++ replicate 16 (pos 1) ++ zeros 51) (pos 1 ∷ pos 0 ∷ pos 1 ∷ zeros 34)
    ∷ gives (two (pos 1) (pos 24) ++ replicate 24 (pos 1) ++ zeros 75) (pos 1 ∷ pos 0 ∷ pos 1 ∷ zeros 50)
    ∷ turned_away (two (pos 1) (pos 25) ++ replicate 25 (pos 1) ++ zeros 78) 2
    -- kind 1 with an upper word; kind 7 together with a coefficient of 1,001
    ∷ turned_away (one_row (pos 1) (pos 1 ∷ pos 0 ∷ pos 5 ∷ [])) 6
    ∷ turned_away (one_row (pos 1001) (pos 7 ∷ pos 0 ∷ pos 0 ∷ [])) 4
    -- a mark on a missing limit, lower, upper and with the other limit there; a kind past 15
    ∷ turned_away (one_row (pos 1) (pos 4 ∷ pos 0 ∷ pos 0 ∷ [])) 5
    ∷ turned_away (one_row (pos 1) (pos 9 ∷ pos 0 ∷ pos 0 ∷ [])) 5
    ∷ turned_away (one_row (pos 1) (pos 14 ∷ pos 0 ∷ pos 0 ∷ [])) 5
    ∷ turned_away (one_row (pos 1) (pos 16 ∷ pos 0 ∷ pos 0 ∷ [])) 5
    ∷ []

unfoldable pub limit_cases : List Case
limit_cases =
    case_a ∷ case_b ∷ case_c ∷ case_d ∷ case_e ∷ case_f ∷ case_g ∷ case_h ∷ case_i
    ∷ case_more ∷ case_none ∷ case_inside ∷ case_touching ∷ case_over ∷ case_less ∷ edges
