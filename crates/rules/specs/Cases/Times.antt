-- docs/RULES.md, "Runs worked by hand": cases J, K and L, and three with strict rows, as words and what is expected of
-- them; then strangers' answers, and the checker's number of each ("Evidence about time rows").
use Rattle.std.specs.Prelude.{List, [], ◌∷◌, ◌++◌, ℕ, ℤ, pos}
use Rattle.rules.specs.Cases.Expected.{Case, checks_times, cycle, minus, times}

-- the words of one row
abbrev line : ℕ → ℕ → ℕ → ℤ → List ℤ
line x y strict c = pos x ∷ pos y ∷ pos strict ∷ c ∷ []

-- x, y, z, w are 0 to 3: x-y<=5, y-x<=-5, y-z<=-2, x-z<=-3, w-x<=2, x-w<=-2
abbrev rows_of_j : List ℤ
rows_of_j =
    line 0 1 0 (pos 5) ++ line 1 0 0 (minus 5) ++ line 1 2 0 (minus 2) ++ line 0 2 0 (minus 3) ++ line 3 0 0 (pos 2)
    ++ line 0 3 0 (minus 2)

-- times 5 0 8 7, and no small parts
abbrev case_j : Case
case_j = record {
  words = pos 4 ∷ pos 6 ∷ rows_of_j;
  expected = times (pos 1 ∷ pos 4 ∷ pos 5 ∷ pos 0 ∷ pos 8 ∷ pos 7 ∷ pos 0 ∷ pos 0 ∷ pos 0 ∷ pos 0 ∷ []);
}

-- J and z-w<=-1: a cycle through x, z, w, sum -2
abbrev case_k : Case
case_k = record {
  words = pos 4 ∷ pos 7 ∷ rows_of_j ++ line 2 3 0 (minus 1);
  expected = cycle (3 ∷ 6 ∷ 4 ∷ []) (minus 2, pos 0)
      (pos 2 ∷ pos 3 ∷ pos 3 ∷ pos 6 ∷ pos 4 ∷ pos 0 ∷ pos 0 ∷ pos 0 ∷ pos 0 ∷ pos 0 ∷ []);
}

-- x-x<0: a cycle of that row alone
abbrev case_l : Case
case_l = record {
  words = pos 1 ∷ pos 1 ∷ line 0 0 1 (pos 0);
  expected = cycle (0 ∷ []) (pos 0, minus 1) (pos 2 ∷ pos 1 ∷ pos 0 ∷ pos 0 ∷ []);
}

-- x-y<1, y-x<0: x one small amount after y. Half a minute meets both
abbrev case_half : Case
case_half = record {
  words = pos 2 ∷ pos 2 ∷ line 0 1 1 (pos 1) ++ line 1 0 1 (pos 0);
  expected = times (pos 1 ∷ pos 2 ∷ pos 0 ∷ pos 0 ∷ pos 1 ∷ pos 0 ∷ []);
}

-- x-y<=1, y-x<=-1: the c sum is 0, and no row is strict
abbrev case_level : Case
case_level = record {
  words = pos 2 ∷ pos 2 ∷ line 0 1 0 (pos 1) ++ line 1 0 0 (minus 1);
  expected = times (pos 1 ∷ pos 2 ∷ pos 1 ∷ pos 0 ∷ pos 0 ∷ pos 0 ∷ []);
}

-- x-y<1, y-x<=-1: the c sum is 0, and one row is strict
abbrev case_strict : Case
case_strict = record {
  words = pos 2 ∷ pos 2 ∷ line 0 1 1 (pos 1) ++ line 1 0 0 (minus 1);
  expected = cycle (0 ∷ 1 ∷ []) (pos 0, minus 1) (pos 2 ∷ pos 2 ∷ pos 0 ∷ pos 1 ∷ pos 0 ∷ pos 0 ∷ []);
}

unfoldable pub time_cases : List Case
time_cases = case_j ∷ case_k ∷ case_l ∷ case_half ∷ case_level ∷ case_strict ∷ []

-- ---- strangers' answers

abbrev told : Case → List ℤ → ℕ → Case
told c a k = record { words = c.words; expected = checks_times a k }

-- K, and a cycle of so many rows with the words that follow
abbrev round : ℤ → List ℤ → ℕ → Case
round k rows = told case_k (pos 2 ∷ k ∷ rows)

-- x-y<=5, with times of x and y, and no small parts
abbrev apart : ℤ → ℤ → ℕ → Case
apart x y k = record {
  words = pos 2 ∷ pos 1 ∷ line 0 1 0 (pos 5);
  expected = checks_times (pos 1 ∷ pos 2 ∷ x ∷ y ∷ pos 0 ∷ pos 0 ∷ []) k;
}

-- the ends of a word of 64 bits
abbrev least : ℤ
least = minus 9223372036854775808

abbrev most : ℤ
most = pos 9223372036854775807

unfoldable pub time_checks : List Case
time_checks =
    -- J ten minutes later, with words past the answer; z a minute early; another count; a word short
    told case_j (pos 1 ∷ pos 4 ∷ pos 15 ∷ pos 10 ∷ pos 18 ∷ pos 17 ∷ pos 0 ∷ pos 0 ∷ pos 0 ∷ pos 0 ∷ pos 9 ∷ []) 8
    ∷ told case_j (pos 1 ∷ pos 4 ∷ pos 5 ∷ pos 0 ∷ pos 7 ∷ pos 7 ∷ pos 0 ∷ pos 0 ∷ pos 0 ∷ pos 0 ∷ []) 9
    ∷ told case_j (pos 1 ∷ pos 5 ∷ pos 5 ∷ pos 0 ∷ pos 8 ∷ pos 7 ∷ pos 0 ∷ pos 0 ∷ pos 0 ∷ pos 0 ∷ []) 9
    ∷ told case_j (pos 1 ∷ pos 4 ∷ pos 5 ∷ pos 0 ∷ pos 8 ∷ pos 7 ∷ pos 0 ∷ pos 0 ∷ pos 0 ∷ []) 17
    -- strict rows: a small amount apart; none
    ∷ told case_half (pos 1 ∷ pos 2 ∷ pos 0 ∷ pos 0 ∷ pos 5 ∷ pos 3 ∷ []) 8
    ∷ told case_half (pos 1 ∷ pos 2 ∷ pos 0 ∷ pos 0 ∷ pos 1 ∷ pos 1 ∷ []) 9
    -- as far apart as words can be
    ∷ apart least most 8
    ∷ apart most least 9
    -- K from another of its rows; a row left out; a row that is none; a word past the rows
    ∷ round (pos 3) (pos 6 ∷ pos 4 ∷ pos 3 ∷ pos 0 ∷ pos 0 ∷ pos 0 ∷ pos 0 ∷ pos 0 ∷ []) 8
    ∷ round (pos 2) (pos 3 ∷ pos 6 ∷ pos 0 ∷ pos 0 ∷ pos 0 ∷ pos 0 ∷ pos 0 ∷ pos 0 ∷ []) 9
    ∷ round (pos 3) (pos 3 ∷ pos 6 ∷ pos 7 ∷ pos 0 ∷ pos 0 ∷ pos 0 ∷ pos 0 ∷ pos 0 ∷ []) 9
    ∷ round (pos 3) (pos 3 ∷ pos 6 ∷ pos 4 ∷ pos 0 ∷ pos 0 ∷ pos 0 ∷ pos 0 ∷ pos 1 ∷ []) 9
    -- no rows; a cycle that is not below 0; a way through a vertex twice
    ∷ round (pos 0) (pos 0 ∷ pos 0 ∷ pos 0 ∷ pos 0 ∷ pos 0 ∷ pos 0 ∷ pos 0 ∷ pos 0 ∷ []) 9
    ∷ round (pos 2) (pos 0 ∷ pos 1 ∷ pos 0 ∷ pos 0 ∷ pos 0 ∷ pos 0 ∷ pos 0 ∷ pos 0 ∷ []) 9
    ∷ told case_l (pos 2 ∷ pos 2 ∷ pos 0 ∷ pos 0 ∷ []) 9
    -- another verdict
    ∷ told case_j (pos 3 ∷ pos 4 ∷ pos 5 ∷ pos 0 ∷ pos 8 ∷ pos 7 ∷ pos 0 ∷ pos 0 ∷ pos 0 ∷ pos 0 ∷ []) 9
    ∷ []
