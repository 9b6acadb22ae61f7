-- docs/RULES.md, "Runs worked by hand" and "The program": what is printed on the worked cases, byte for byte. Every
-- case of specs/Cases/Limits as bytes, and beside them an answer out of range and the byte counts at the edges.
use Prim.Native.String
use Prim.Native.String.{String}
use Rattle.std.specs.Prelude.{List, [], map, ◌++◌, ◌∷◌, ℕ, ◌+◌, pos, ℤ, replicate}
use Rattle.rules.specs.Program.Bytes.{bytes_from}
use Rattle.rules.specs.Cases.Expected.{minus}
use Rattle.rules.specs.Cases.Limits.{limit_cases}
use Rattle.rules.specs.Sizes.{most_bytes}

-- the limits of a variable that is 0 or more, and then others
abbrev zero_or_more : List ℤ → List ℤ
zero_or_more ws = pos 1 ∷ pos 0 ∷ pos 0 ∷ ws

-- four rows 999 w - 1000 v >= 0 along five variables, the first at least 1: the third pivot would leave 999 ^ 4
abbrev pub out_of_range : List ℤ
out_of_range =
    pos 5 ∷ pos 4
    ∷ minus 1000 ∷ pos 999 ∷ pos 0 ∷ pos 0 ∷ pos 0
    ∷ pos 0 ∷ minus 1000 ∷ pos 999 ∷ pos 0 ∷ pos 0
    ∷ pos 0 ∷ pos 0 ∷ minus 1000 ∷ pos 999 ∷ pos 0
    ∷ pos 0 ∷ pos 0 ∷ pos 0 ∷ minus 1000 ∷ pos 999
    ∷ pos 1 ∷ pos 1 ∷ pos 0 ∷ zero_or_more (zero_or_more (zero_or_more (zero_or_more
    (zero_or_more (zero_or_more (zero_or_more (zero_or_more [])))))))

unfoldable pub inputs : List (List ℕ)
inputs =
    map (λ c. bytes_from c.words) limit_cases
    ++ (bytes_from out_of_range
    -- the last byte count that is refused 1, and the first that is not
    ∷ replicate 7 0 ∷ replicate 8 0
    -- no whole number of words; the most bytes, and one word more, which is judged before the words are
    ∷ replicate 9 0 ∷ replicate most_bytes 0 ∷ replicate (most_bytes + 4) 0 ∷ [])

-- the values 0 of variables 0 to 16
abbrev to_sixteen : String
to_sixteen = "0 0\n1 0\n2 0\n3 0\n4 0\n5 0\n6 0\n7 0\n8 0\n9 0\n10 0\n11 0\n12 0\n13 0\n14 0\n15 0\n16 0\n"

unfoldable pub outputs : List String
outputs =
    -- A to I
    "can\npivots 2\nover 3\n0 3\n1 3\n2 6\n3 3\n4 3\n"
    ∷ "can\npivots 2\nover 3\n0 -2\n1 2\n2 0\n3 6\n4 22\n"
    ∷ "cannot\npivots 2\n2 lower 3\n3 lower 2\n4 lower 1\n"
    ∷ "can\npivots 2\nover 2\n0 -2\n1 -3\n2 -8\n3 -7\n"
    ∷ "can\npivots 2\nover 4\n0 13\n1 11\n2 -2\n3 11\n4 -24\n5 28\n"
    ∷ "cannot\npivots 0\n0 lower 1\n1 lower 1\n2 upper 1\n"
    ∷ "cannot\npivots 0\n0 lower 1\n0 upper 1\n"
    ∷ "can\npivots 0\nover 1\n0 0\n"
    ∷ "refused 10\n"
    -- strict limits
    ∷ "can\npivots 0\nover 1\n0 0 1\n"
    ∷ "cannot\npivots 0\n0 lower 1\n0 upper 1\n"
    ∷ "can\npivots 1\nover 1\n0 3 1\n1 0\n2 3 1\n"
    ∷ "cannot\npivots 1\n0 upper 1\n1 upper 1\n2 lower 1\n"
    ∷ "can\npivots 1\nover 2\n0 0 1\n1 0\n2 0 2\n3 0 3\n"
    ∷ "can\npivots 0\nover 1\n0 0 -1\n1 0\n2 0 -4\n"
    -- the edges
    ∷ "can\npivots 0\nover 1\n0 0\n1 0\n" ∷ "refused 4\n" ∷ "refused 6\n" ∷ "refused 2\n" ∷ "refused 2\n"
    ∷ String.◌++◌ "can\npivots 0\nover 1\n" to_sixteen
    ∷ String.◌++◌ "can\npivots 0\nover 1\n"
    (String.◌++◌ to_sixteen "17 0\n18 0\n19 0\n20 0\n21 0\n22 0\n23 0\n24 0\n")
    ∷ "refused 2\n"
    ∷ "refused 6\n" ∷ "refused 4\n"
    ∷ "refused 5\n" ∷ "refused 5\n" ∷ "refused 5\n" ∷ "refused 5\n"
    -- out of range, and byte counts
    ∷ "range\npivots 2\n"
    ∷ "refused 1\n" ∷ "refused 2\n" ∷ "refused 3\n" ∷ "refused 2\n" ∷ "refused 3\n"
    ∷ []
