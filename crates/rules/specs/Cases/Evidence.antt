-- docs/RULES.md, "The evidence checker" and "Wide evidence": strangers' answers with small parts and strict limits, and
-- the number of each; then answers with numbers of four words.
use Rattle.std.specs.Prelude.{List, [], ◌∷◌, ◌++◌, ℕ, ℤ, pos}
use Rattle.rules.specs.Cases.Expected.{Case, checks, checks_wide, minus}
use Rattle.rules.specs.Cases.Limits.{case_h, case_inside, case_touching, lower_only, more_than, two}
use Rattle.rules.specs.Cases.Limits.{upper_only, zeros}
use Rattle.rules.specs.Sizes.{largest_head, largest_limb}
use Rattle.rules.specs.Wide.{wide_form}

abbrev case : List ℤ → List ℤ → ℕ → Case
case ws a k = record { words = ws; expected = checks a k }

-- x>0, y<3, x+y>3: over 1, numerators and small parts of x, y and the row
abbrev inside : List ℤ → ℕ → Case
inside a = case case_inside.words (pos 1 ∷ pos 0 ∷ pos 1 ∷ a)

-- x free: over 1, its numerator 0 and this small part
abbrev alone : ℤ → ℕ → Case
alone z = case case_h.words (pos 1 ∷ pos 0 ∷ pos 1 ∷ pos 0 ∷ z ∷ [])

-- x<=0, y<=3, z>0, x+y>=3: the strict limit plays no part
abbrev beside : List ℤ
beside =
    two (pos 3) (pos 1) ++ (pos 1 ∷ pos 1 ∷ pos 0 ∷ [])
    ++ upper_only (pos 0) ++ upper_only (pos 3) ++ more_than (pos 0) ++ lower_only (pos 3)

-- ---- numbers of four words, the lowest first

abbrev four : ℤ → ℤ → ℤ → ℤ → List ℤ
four a b c d = a ∷ b ∷ c ∷ d ∷ []

-- below 2^32
abbrev low : ℤ → List ℤ
low a = four a (pos 0) (pos 0) (pos 0)

-- times 2^96
abbrev high : ℤ → List ℤ
high d = four (pos 0) (pos 0) (pos 0) d

abbrev wide : List ℤ → List ℤ → ℕ → Case
wide ws a k = record { words = ws; expected = checks_wide a k }

-- x free: over 1, its numerator 0 and this small part
abbrev alone_wide : List ℤ → ℕ → Case
alone_wide z = wide case_h.words (pos 1 ∷ pos 0 ∷ low (pos 1) ++ low (pos 0) ++ z)

-- 0<x<1: over 2^96, its numerator and its small part
abbrev between : List ℤ → List ℤ → ℕ → Case
between x y =
    wide (two (pos 1) (pos 0) ++ (pos 15 ∷ pos 0 ∷ pos 1 ∷ [])) (pos 1 ∷ pos 0 ∷ high (pos 1) ++ x ++ y)

-- x<=0, y<3, x+y>=3: this multiplier of all three limits
abbrev touching : List ℤ → ℕ → Case
touching k = wide case_touching.words (pos 2 ∷ pos 0 ∷ zeros 12 ++ k ++ k ++ k ++ zeros 4)

unfoldable pub wide_cases : List Case
wide_cases =
    -- an answer of one word a number, in wide form; a word short
    wide case_inside.words (wide_form 3 (pos 1 ∷ pos 1 ∷ pos 1 ∷ pos 3 ∷ pos 0 ∷ pos 3 ∷ pos 1 ∷ pos 0 ∷ pos 1 ∷ [])) 8
    ∷ wide case_h.words (pos 1 ∷ pos 0 ∷ low (pos 1) ++ zeros 7) 7
    -- the largest number and the least; a word beyond its range, above and below
    ∷ alone_wide (four (pos largest_limb) (pos largest_limb) (pos largest_limb) (pos largest_head)) 8
    ∷ alone_wide (high (minus 2147483648)) 8
    ∷ alone_wide (four (pos 4294967296) (pos 0) (pos 0) (pos 0)) 9
    ∷ alone_wide (four (pos 0) (minus 1) (pos 0) (pos 0)) 9
    ∷ alone_wide (high (pos 2147483648)) 9
    ∷ alone_wide (high (minus 2147483649)) 9
    -- 1 / 2^96 is above 0; 0 is not, but with a small part above 0; 2^96 / 2^96 is not below 1, but with one below 0
    ∷ between (low (pos 1)) (low (pos 0)) 8
    ∷ between (low (pos 0)) (low (pos 0)) 9
    ∷ between (low (pos 0)) (low (pos 1)) 8
    ∷ between (high (pos 1)) (low (pos 0)) 9
    ∷ between (high (pos 1)) (four (pos largest_limb) (pos largest_limb) (pos largest_limb) (minus 1)) 8
    -- multipliers of 2^64; one below 0; all of them 0
    ∷ touching (four (pos 0) (pos 0) (pos 1) (pos 0)) 8
    ∷ touching (high (minus 1)) 9
    ∷ touching (zeros 4) 9
    ∷ []

unfoldable pub evidence_cases : List Case
evidence_cases =
    -- well inside; a small amount inside; at a strict limit; the row's small part is not the sum
    inside (pos 2 ∷ pos 2 ∷ pos 4 ∷ zeros 3) 8
    ∷ inside (pos 0 ∷ pos 3 ∷ pos 3 ∷ pos 2 ∷ minus 1 ∷ pos 1 ∷ []) 8
    ∷ inside (pos 3 ∷ pos 0 ∷ pos 3 ∷ zeros 3) 9
    ∷ inside (pos 3 ∷ pos 0 ∷ pos 3 ∷ pos 1 ∷ pos 0 ∷ pos 2 ∷ []) 9
    -- a small part where no limit is strict: in range, and past it
    ∷ alone (minus 17179869176) 8
    ∷ alone (pos 17179869177) 9
    -- the limits sum to 0: one of them is strict, twice each; none is; one is that has no multiplier
    ∷ case case_touching.words (pos 2 ∷ pos 0 ∷ pos 0 ∷ pos 0 ∷ pos 0 ∷ pos 2 ∷ pos 2 ∷ pos 2 ∷ pos 0 ∷ []) 8
    ∷ case (two (pos 1) (pos 0) ++ (pos 3 ∷ pos 5 ∷ pos 5 ∷ [])) (pos 2 ∷ pos 0 ∷ pos 0 ∷ pos 1 ∷ pos 1 ∷ []) 9
    ∷ case beside (pos 2 ∷ pos 0 ∷ pos 0 ∷ zeros 3 ++ (pos 1 ∷ pos 1 ∷ pos 1 ∷ []) ++ zeros 2) 9
    ∷ []
