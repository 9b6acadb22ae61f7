-- docs/RULES.md, "Switching limits": the words of a problem with some of its limits taken out, which the evidence
-- checker is handed with the answer of a session's check. A limit that is taken out is missing: its bit and its mark
-- are gone, and its word is 0.
use Rattle.std.specs.Prelude.{Bool, cond, ◌&&◌, List, ℕ, ◌+◌, ◌-◌, ◌/◌, ◌%◌, ◌^◌, eqb, ltb, ℤ, pos, length}
use Rattle.whole.specs.Tables.{table}
use Rattle.rules.specs.Limit.{has_lower, has_upper, strict_lower, strict_upper}
use Rattle.rules.specs.Problem.{kind, kind_place, lower_word, upper_word, word}
use Rattle.rules.specs.Step.{Side, above, below}

-- the value of a bit that is set
abbrev pub bit_value : ℕ → Bool → ℕ
bit_value b set = cond set (2 ^ b) 0

-- the kind of these bits: lower, upper, strict lower, strict upper
unfoldable pub kind_of : (lower upper strictlower strictupper : Bool) → ℤ
kind_of a b c d = pos (bit_value 0 a + bit_value 1 b + bit_value 2 c + bit_value 3 d)

-- a kind of which the lower limit is kept, or dropped, and the upper one
unfoldable pub live_kind : (lower upper : Bool) → ℤ → ℤ
live_kind low high k = kind_of (low && has_lower k) (high && has_upper k) (low && strict_lower k)
    (high && strict_upper k)

-- word r of the three of variable v: kind, lower, upper
unfoldable pub live_limit : (Side → ℕ → Bool) → List ℤ → ℕ → ℕ → ℤ
live_limit on ws v r = cond (eqb r 0) (live_kind (on below v) (on above v) (kind ws v))
    (cond (eqb r 1) (cond (on below v) (lower_word ws v) (pos 0)) (cond (on above v) (upper_word ws v) (pos 0)))

-- word i: n, m and the coefficients as they are
unfoldable pub live_word : (Side → ℕ → Bool) → List ℤ → ℕ → ℤ
live_word on ws i = let k : ℕ = i - kind_place ws 0 in
    cond (ltb i (kind_place ws 0)) (word ws i) (live_limit on ws (k / 3) (k % 3))

unfoldable pub live_words : (Side → ℕ → Bool) → List ℤ → List ℤ
live_words on ws = table (length ws) (live_word on ws)
