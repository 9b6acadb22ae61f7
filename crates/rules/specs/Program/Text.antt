-- docs/RULES.md, "The program": numbers, answers and refusals as text, byte for byte as they are printed.
-- Every line ends in a newline.
use Prim.Native.String.{String}
use Prim.Native.Char.{code}
use Rattle.std.specs.Prelude.{true, false, cond, List, [], ◌∷◌, ◌++◌, ℕ, zero, suc, ◌+◌, ◌-◌, ◌*◌, ◌/◌, ◌%◌, ℤ, pos}
use Rattle.std.specs.Prelude.{negsuc, neg_ℤ, eqb, leb, ltb, length, drop, get_or}
use Rattle.whole.specs.Numbers.{eq_z}
use Rattle.rules.specs.Problem.{word}

-- the bytes of a text of plain (ASCII) characters
unfoldable pub ascii : String → List ℕ
ascii String.[] = []
ascii (String.◌∷◌ c s) = code c ∷ ascii s

-- ---- numbers

-- the byte of a digit below 10
abbrev pub digit : ℕ → ℕ
digit d = 48 + d

-- the digits of n, the highest first; n falls at each turn, so n itself is fuel enough
unfoldable pub digits_turns : ℕ → ℕ → List ℕ
digits_turns zero n = digit n ∷ []
digits_turns (suc k) n = elim (ltb n 10) [
  | true ↦ digit n ∷ []
  | false ↦ digits_turns k (n / 10) ++ (digit (n % 10) ∷ [])
]

-- in decimal, with no zero in front; 0 is one digit
unfoldable pub digits : ℕ → List ℕ
digits n = digits_turns n n

-- a number below 0 has a minus sign, 45, in front of its size
unfoldable pub decimal : ℤ → List ℕ
decimal (pos n) = digits n
decimal (negsuc k) = 45 ∷ digits (suc k)

-- read back: the number so far, and then the digits of a text
unfoldable pub reading : ℕ → List ℕ → ℕ
reading n [] = n
reading n (d ∷ t) = reading (10 * n + (d - 48)) t

-- a minus sign first, or none
unfoldable pub number : List ℕ → ℤ
number t = cond (eqb (get_or t 0 0) 45) (neg_ℤ (pos (reading 0 (drop 1 t)))) (pos (reading 0 t))

-- ---- lines

-- a name and a number
unfoldable pub line : List ℕ → ℤ → List ℕ
line name z = name ++ decimal z ++ ascii "\n"

-- a variable, what stands between, and a number
unfoldable pub variable_line : ℕ → List ℕ → ℤ → List ℕ
variable_line v between z = digits v ++ line between z

-- how a value's line ends: a small part other than 0 stands behind a space
unfoldable pub small_end : ℤ → List ℕ
small_end (pos zero) = ascii "\n"
small_end (pos (suc n)) = line (ascii " ") (pos (suc n))
small_end (negsuc k) = line (ascii " ") (negsuc k)

-- a multiplier of 0 has no line
unfoldable pub multiplier_line : ℕ → List ℕ → ℤ → List ℕ
multiplier_line v between (pos zero) = []
multiplier_line v between (pos (suc n)) = variable_line v between (pos (suc n))
multiplier_line v between (negsuc k) = variable_line v between (negsuc k)

-- the lines of the variables below k, in rising order
unfoldable pub lines_below : ℕ → (ℕ → List ℕ) → List ℕ
lines_below zero f = []
lines_below (suc k) f = lines_below k f ++ f k

-- ---- an answer of N variables, from its words: verdict, pivots, denominator, then N words and N more

-- the verdict's line, and the pivots
unfoldable pub head_lines : List ℕ → List ℤ → List ℕ
head_lines verdict ws = verdict ++ line (ascii "pivots ") (word ws 1)

-- the numerator of v, and its small part's
unfoldable pub value_line : List ℤ → ℕ → ℕ → List ℕ
value_line ws N v = digits v ++ ascii " " ++ decimal (word ws (3 + v)) ++ small_end (word ws (3 + N + v))

-- the two multipliers of v, the lower limit's first
unfoldable pub multiplier_lines : List ℤ → ℕ → ℕ → List ℕ
multiplier_lines ws N v =
    multiplier_line v (ascii " lower ") (word ws (3 + v)) ++ multiplier_line v (ascii " upper ") (word ws (3 + N + v))

unfoldable pub can_text : List ℤ → ℕ → List ℕ
can_text ws N = head_lines (ascii "can\n") ws ++ line (ascii "over ") (word ws 2) ++ lines_below N (value_line ws N)

unfoldable pub cannot_text : List ℤ → ℕ → List ℕ
cannot_text ws N = head_lines (ascii "cannot\n") ws ++ lines_below N (multiplier_lines ws N)

unfoldable pub range_text : List ℤ → List ℕ
range_text ws = head_lines (ascii "range\n") ws

-- verdict 1, 2 or 3; no answer has another
unfoldable pub answer_text : List ℤ → ℕ → List ℕ
answer_text ws N =
    cond (eq_z (word ws 0) (pos 1)) (can_text ws N) (cond (eq_z (word ws 0) (pos 2)) (cannot_text ws N) (range_text ws))

unfoldable pub refusal_text : ℕ → List ℕ
refusal_text k = line (ascii "refused ") (pos k)

-- ---- a text in a lent slice of bytes

-- what stands there afterwards: the text and then the bytes that were there; a slice that is too short is kept whole
unfoldable pub printed : List ℕ → List ℕ → List ℕ
printed text before = cond (leb (length text) (length before)) (text ++ drop (length text) before) before
