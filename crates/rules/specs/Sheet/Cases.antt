-- docs/RULES.md, "The auditor's sheet": worked sheets, whole and byte for byte. That of the ten bodies; those of no
-- body, of refused bodies alone, of pivots that are 0 and of a tie; a body of 17 rows in either edition; and files that
-- are refused.
use Prim.Native.String
use Prim.Native.String.{String}
use mathlib.Core.List.{List, [], ◌++◌, ◌∷◌, flatten, map}
use Rattle.std.specs.Prelude.{ℕ, ◌+◌, ◌-◌, ℤ, pos, length, replicate}
use Rattle.rules.specs.Cases.Bundle.{many_rows, ten_bodies}
use Rattle.rules.specs.Cases.Limits.{case_a, case_c, case_g, case_h, case_i}
use Rattle.rules.specs.Bundle.Writer.{file_words}
use Rattle.rules.specs.Program.Bytes.{bytes_from}
use Rattle.rules.specs.Program.Text.{ascii, digits, lines_below}
use Rattle.rules.specs.Sizes.{most_variables}

-- the edition of a file, its bodies, and its sheet
pub record SheetCase : Type 0 where
  pub edition : ℕ
  pub bodies : List (List ℤ)
  pub text : List ℕ

abbrev pub file_of : SheetCase → List ℕ
file_of c = bytes_from (file_words c.edition (map (λ b. pos (length b)) c.bodies) (flatten c.bodies))

-- the variables from v on, none of them named
abbrev idle_from : ℕ → List ℕ
idle_from v = lines_below (most_variables - v) (λ j. digits (v + j) ++ ascii " lower 0 upper 0\n")

abbrev sheet : ℕ → List (List ℤ) → String → ℕ → SheetCase
sheet e bodies text v = record { edition = e; bodies = bodies; text = ascii text ++ idle_from v }

-- the line of its refusal alone
abbrev refused_file : ℕ → List (List ℤ) → String → SheetCase
refused_file e bodies text = record { edition = e; bodies = bodies; text = ascii text }

-- no refusal, 1 to 10
abbrev none_refused : String
none_refused =
    "refused 1 0\nrefused 2 0\nrefused 3 0\nrefused 4 0\nrefused 5 0\nrefused 6 0\nrefused 10 0\n"

abbrev ten_top : String
ten_top =
    "bodies 10\ncan 2\ncannot 3\nrange 1\nrefused 1 2\nrefused 2 0\nrefused 3 1\nrefused 4 1\nrefused 5 0\n"

abbrev ten_end : String
ten_end =
    "refused 6 0\nrefused 10 0\npivots 6\nlargest 2 body 0\n0 lower 2 upper 1\n1 lower 1 upper 0\n2 lower 1 upper 1\n"

unfoldable pub sheet_cases : List SheetCase
sheet_cases =
    -- the ten bodies
    sheet 1 ten_bodies (String.◌++◌ ten_top (String.◌++◌ ten_end "3 lower 1 upper 0\n4 lower 1 upper 0\n")) 5
    -- no body
    ∷ sheet 1 []
    (String.◌++◌ "bodies 0\ncan 0\ncannot 0\nrange 0\n" (String.◌++◌ none_refused "pivots 0\nlargest 0 body none\n")) 0
    -- no verdict
    ∷ sheet 1 ((pos 7 ∷ []) ∷ case_i.words ∷ [])
    (String.◌++◌ "bodies 2\ncan 0\ncannot 0\nrange 0\nrefused 1 1\nrefused 2 0\nrefused 3 0\nrefused 4 0\nrefused 5 0\n"
    "refused 6 0\nrefused 10 1\npivots 0\nlargest 0 body none\n") 0
    -- no pivot: the largest is 0, and the first verdict has it
    ∷ sheet 1 ([] ∷ case_h.words ∷ case_g.words ∷ [])
    (String.◌++◌ "bodies 3\ncan 1\ncannot 1\nrange 0\nrefused 1 1\nrefused 2 0\nrefused 3 0\nrefused 4 0\nrefused 5 0\n"
    "refused 6 0\nrefused 10 0\npivots 0\nlargest 0 body 1\n0 lower 1 upper 1\n") 1
    -- a tie: the lower body
    ∷ sheet 2 (case_h.words ∷ case_c.words ∷ case_a.words ∷ [])
    (String.◌++◌ "bodies 3\ncan 2\ncannot 1\nrange 0\n" (String.◌++◌ none_refused
    (String.◌++◌ "pivots 4\nlargest 2 body 1\n0 lower 0 upper 0\n1 lower 0 upper 0\n2 lower 1 upper 0\n"
    "3 lower 1 upper 0\n4 lower 1 upper 0\n"))) 5
    -- 17 rows, in either edition
    ∷ sheet 1 (many_rows 17 ∷ [])
    (String.◌++◌ "bodies 1\ncan 0\ncannot 0\nrange 0\nrefused 1 0\nrefused 2 1\nrefused 3 0\nrefused 4 0\nrefused 5 0\n"
    "refused 6 0\nrefused 10 0\npivots 0\nlargest 0 body none\n") 0
    ∷ sheet 2 (many_rows 17 ∷ [])
    (String.◌++◌ "bodies 1\ncan 1\ncannot 0\nrange 0\n" (String.◌++◌ none_refused "pivots 0\nlargest 0 body 0\n")) 0
    -- files that are refused: an edition that there is not, and a body too many
    ∷ refused_file 3 (case_a.words ∷ []) "refused 31\n"
    ∷ refused_file 2 (replicate 49 []) "refused 32\n"
    ∷ []
