-- docs/RULES.md, "A day's file": worked files, and what is expected of them. A file of ten bodies with its pairs and
-- its text; bodies of many rows in either edition; small files and the edges, each with its refusal; calls of the
-- writer, each with its own.
use Prim.Native.String.{String}
use Rattle.std.specs.Prelude.{List, [], ◌∷◌, ◌++◌, ℕ, zero, suc, ◌+◌, ◌*◌, ℤ, pos, replicate, take}
use Rattle.rules.specs.Cases.Expected.{minus}
use Rattle.rules.specs.Cases.Limits.{case_a, case_c, case_f, case_g, case_h, zeros}

-- ---- ten bodies

-- two limits of 5 on each of three rows with large coefficients: the third tableau is too large
abbrev wide_rows : List ℤ
wide_rows =
    pos 3 ∷ pos 3 ∷ pos 742 ∷ pos 702 ∷ pos 687 ∷ pos 420 ∷ pos 838 ∷ minus 973 ∷ minus 909 ∷ pos 712 ∷ pos 868
    ∷ zeros 9 ++ (pos 3 ∷ pos 5 ∷ pos 5 ∷ pos 3 ∷ pos 5 ∷ pos 5 ∷ pos 3 ∷ pos 5 ∷ pos 5 ∷ [])

-- a coefficient of 1,001
abbrev too_large : List ℤ
too_large = pos 1 ∷ pos 1 ∷ pos 1001 ∷ zeros 6

-- A, G, nothing, one word, A without its last word, C, a run out of range, a bad coefficient, F and H
unfoldable pub ten_bodies : List (List ℤ)
ten_bodies =
    case_a.words ∷ case_g.words ∷ [] ∷ (pos 3 ∷ []) ∷ take 22 case_a.words ∷ case_c.words ∷ wide_rows ∷ too_large
    ∷ case_f.words ∷ case_h.words ∷ []

unfoldable pub ten_lengths : List ℤ
ten_lengths = pos 23 ∷ pos 5 ∷ pos 0 ∷ pos 1 ∷ pos 22 ∷ pos 23 ∷ pos 29 ∷ pos 9 ∷ pos 13 ∷ pos 5 ∷ []

-- edition, count and pairs of their file
unfoldable pub ten_head : List ℤ
ten_head =
    pos 1 ∷ pos 10 ∷ pos 22 ∷ pos 23 ∷ pos 45 ∷ pos 5 ∷ pos 50 ∷ pos 0 ∷ pos 50 ∷ pos 1 ∷ pos 51 ∷ pos 22
    ∷ pos 73 ∷ pos 23 ∷ pos 96 ∷ pos 29 ∷ pos 125 ∷ pos 9 ∷ pos 134 ∷ pos 13 ∷ pos 147 ∷ pos 5 ∷ []

unfoldable pub ten_texts : List String
ten_texts =
    "can\npivots 2\nover 3\n0 3\n1 3\n2 6\n3 3\n4 3\n"
    ∷ "cannot\npivots 0\n0 lower 1\n0 upper 1\n"
    ∷ "refused 1\n" ∷ "refused 1\n" ∷ "refused 3\n"
    ∷ "cannot\npivots 2\n2 lower 3\n3 lower 2\n4 lower 1\n"
    ∷ "range\npivots 2\n"
    ∷ "refused 4\n"
    ∷ "cannot\npivots 0\n0 lower 1\n1 lower 1\n2 upper 1\n"
    ∷ "can\npivots 0\nover 1\n0 0\n" ∷ []

-- ---- rows of a body, by the edition of its file

-- one variable, and so many rows that are the variable itself; no limits
abbrev pub many_rows : ℕ → List ℤ
many_rows m = pos 1 ∷ pos m ∷ replicate m (pos 1) ++ zeros (3 * (m + 1))

-- an edition, how many rows, and the refusal of such a body
pub record BodyCase : Type 0 where
  pub edition : ℕ
  pub rows : ℕ
  pub number : ℕ

abbrev body_is : ℕ → ℕ → ℕ → BodyCase
body_is e m k = record { edition = e; rows = m; number = k }

unfoldable pub body_cases : List BodyCase
body_cases = body_is 1 16 0 ∷ body_is 1 17 2 ∷ body_is 2 17 0 ∷ body_is 2 24 0 ∷ body_is 2 25 2 ∷ []

-- ---- small files

-- words, and the refusal of the file that they are
pub record FileCase : Type 0 where
  pub words : List ℤ
  pub number : ℕ

abbrev file_is : List ℤ → ℕ → FileCase
file_is ws k = record { words = ws; number = k }

-- k pairs of bodies with no word, behind edition and count
unfoldable pub empty_pairs : ℕ → ℤ → List ℤ
empty_pairs zero first = []
empty_pairs (suc k) first = first ∷ pos 0 ∷ empty_pairs k first

unfoldable pub file_cases : List FileCase
file_cases =
    -- no body, one body with no word, two bodies
    file_is (pos 1 ∷ pos 0 ∷ []) 0
    ∷ file_is (pos 1 ∷ pos 1 ∷ pos 4 ∷ pos 0 ∷ []) 0
    ∷ file_is (pos 1 ∷ pos 2 ∷ pos 6 ∷ pos 1 ∷ pos 7 ∷ pos 0 ∷ pos 9 ∷ []) 0
    -- one word; other editions
    ∷ file_is (pos 1 ∷ []) 30
    ∷ file_is (pos 0 ∷ pos 0 ∷ []) 31 ∷ file_is (pos 3 ∷ pos 0 ∷ []) 31 ∷ file_is (minus 1 ∷ pos 0 ∷ []) 31
    ∷ file_is (pos 2 ∷ pos 0 ∷ []) 0 ∷ file_is (minus 2 ∷ pos 0 ∷ []) 31
    -- counts: below 0, the most, one more, of both editions
    ∷ file_is (pos 1 ∷ minus 1 ∷ []) 32
    ∷ file_is (pos 1 ∷ pos 64 ∷ empty_pairs 64 (pos 130)) 0
    ∷ file_is (pos 1 ∷ pos 65 ∷ empty_pairs 65 (pos 132)) 32
    ∷ file_is (pos 2 ∷ pos 48 ∷ empty_pairs 48 (pos 98)) 0
    ∷ file_is (pos 2 ∷ pos 49 ∷ empty_pairs 49 (pos 100)) 32
    -- shorter than its pairs
    ∷ file_is (pos 1 ∷ pos 1 ∷ []) 33 ∷ file_is (pos 1 ∷ pos 1 ∷ pos 4 ∷ []) 33
    -- a negative length, a start too late, a gap, an overlap, a sum that would wrap, a negative length further on
    ∷ file_is (pos 1 ∷ pos 1 ∷ pos 4 ∷ minus 1 ∷ []) 34
    ∷ file_is (pos 1 ∷ pos 1 ∷ pos 5 ∷ pos 0 ∷ []) 34
    ∷ file_is (pos 1 ∷ pos 2 ∷ pos 6 ∷ pos 1 ∷ pos 8 ∷ pos 0 ∷ pos 9 ∷ pos 9 ∷ []) 34
    ∷ file_is (pos 1 ∷ pos 2 ∷ pos 6 ∷ pos 1 ∷ pos 6 ∷ pos 0 ∷ pos 9 ∷ []) 34
    ∷ file_is (pos 1 ∷ pos 2 ∷ pos 6 ∷ pos 2147483647 ∷ minus 2147483643 ∷ pos 0 ∷ []) 34
    ∷ file_is (pos 1 ∷ pos 2 ∷ pos 6 ∷ pos 2 ∷ pos 8 ∷ minus 1 ∷ pos 9 ∷ []) 34
    -- too short for its bodies, too long
    ∷ file_is (pos 1 ∷ pos 1 ∷ pos 4 ∷ pos 1 ∷ []) 35 ∷ file_is (pos 1 ∷ pos 0 ∷ pos 0 ∷ []) 35 ∷ []

-- counts of bytes: those that are refused, and those that are not
unfoldable pub bad_counts : List ℕ
bad_counts = 0 ∷ 4 ∷ 7 ∷ 9 ∷ 65535 ∷ 65537 ∷ 65540 ∷ []

unfoldable pub good_counts : List ℕ
good_counts = 8 ∷ 12 ∷ 65536 ∷ []

-- ---- the writer

-- edition, lengths, how many words, room in bytes; and the refusal
pub record WriterCase : Type 0 where
  pub edition : ℕ
  pub lengths : List ℤ
  pub words : ℕ
  pub room : ℕ
  pub number : ℕ

abbrev writing_in : ℕ → List ℤ → ℕ → ℕ → ℕ → WriterCase
writing_in e lengths words room k =
    record { edition = e; lengths = lengths; words = words; room = room; number = k }

abbrev writing : List ℤ → ℕ → ℕ → ℕ → WriterCase
writing = writing_in 1

unfoldable pub writer_cases : List WriterCase
writer_cases =
    -- no body; one of five words; just room enough, and a byte less
    writing [] 0 8 0 ∷ writing [] 0 7 36 ∷ writing (pos 5 ∷ []) 5 36 0 ∷ writing (pos 5 ∷ []) 5 35 36
    -- 64 bodies, and one more, whatever else is wrong
    ∷ writing (zeros 64) 0 520 0 ∷ writing (minus 1 ∷ zeros 64) 3 0 32
    -- the same of edition 2
    ∷ writing_in 2 (zeros 48) 0 392 0 ∷ writing_in 2 (minus 1 ∷ zeros 48) 3 0 32
    -- no such edition, whatever else is wrong
    ∷ writing_in 0 [] 0 8 31 ∷ writing_in 3 (minus 1 ∷ zeros 64) 3 0 31
    -- negative lengths, also where the sum is right
    ∷ writing (minus 1 ∷ pos 1 ∷ []) 0 99 34 ∷ writing (pos 3 ∷ minus 1 ∷ []) 2 99 34
    -- too few words, too many; a sum that would wrap
    ∷ writing (pos 2 ∷ pos 2 ∷ []) 5 99 35 ∷ writing (pos 2 ∷ pos 2 ∷ []) 3 99 35
    ∷ writing (pos 2147483647 ∷ pos 2147483647 ∷ pos 2 ∷ []) 0 99 35
    -- the most words of a file, and one more
    ∷ writing (pos 16380 ∷ []) 16380 65536 0 ∷ writing (pos 16381 ∷ []) 16381 65540 30 ∷ []
