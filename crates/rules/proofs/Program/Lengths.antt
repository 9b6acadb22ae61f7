-- How long the program's texts are. A number of 64 bits takes at most 20 bytes, so no text has more than `most_text`.
--   line-short, head-short, value-short, multipliers-short   of one line or two
--   lines-longer                                             of the lines of the variables, one variable more
--   lines-inside, lines-bounded                              one line and all before it; all, where each is short
--   can-short, cannot-short, range-short, refusal-text-short      of a whole text, from its parts
use mathlib.Core.Path.{◌≡◌, ◌∙◌, ap}
use mathlib.Core.List.{List}
use Prim.Native.Nat.{ℕ, zero, suc, ◌+◌, ◌*◌, ◌≤◌, ◌<◌}
use native.Mathlib.Decide.{dec_lt}
use native.Mathlib.Nat.{mul-suc}
use native.Mathlib.Numerals.{add-one}
use native.Mathlib.Omega.{arith}
use lib.IntN.{ℤ, pos, negsuc}
use lib.ListN.{length, length-append}
use mir.Syntax.{w64}
use mir.Val.{SFits}
use Rattle.rules.specs.Sizes.{most_variables, most_decimal}
use Rattle.rules.specs.Sizes.{most_pivots_line, most_value_line, most_multiplier_lines, most_text}
use Rattle.rules.specs.Problem.{word}
use Rattle.rules.specs.Program.Text.{ascii, line, variable_line, multiplier_line, lines_below, small_end}
use Rattle.rules.specs.Program.Text.{head_lines, value_line, multiplier_lines, can_text, cannot_text, range_text}
use Rattle.rules.specs.Program.Text.{refusal_text}
use Rattle.rules.proofs.Program.Numbers.{digits-short, decimal-short}

-- ---- one line

pub line-short : (name : List ℕ) (z : ℤ) → SFits w64 z → length (line name z) ≤ length name + most_decimal + 1
unfolding line ascii
line-short name z f = simp length-append (omega (arith, decimal-short z f))

module _ (v : ℕ) (between : List ℕ) (few : v < 100) where
  variable-short : (z : ℤ) → SFits w64 z → length (variable_line v between z) ≤ length between + most_decimal + 3
  unfolding variable_line
  variable-short z f = rw length-append (omega (arith, digits-short 1 v few, line-short between z f))

  multiplier-short : (z : ℤ) → SFits w64 z → length (multiplier_line v between z) ≤ length between + most_decimal + 3
  unfolding multiplier_line
  multiplier-short (pos zero) f = omega arith
  multiplier-short (pos (suc n)) f = variable-short (pos (suc n)) f
  multiplier-short (negsuc k) f = variable-short (negsuc k) f

-- ---- the lines of an answer, where the words that they tell fit

pub head-short :
    (verdict : List ℕ) (ws : List ℤ) → SFits w64 (word ws 1)
    → length (head_lines verdict ws) ≤ length verdict + most_pivots_line
unfolding head_lines ascii
head-short verdict ws f = rw length-append (omega (arith, line-short (ascii "pivots ") (word ws 1) f))

end_short : (z : ℤ) → SFits w64 z → length (small_end z) ≤ most_decimal + 2
unfolding small_end ascii
end_short (pos zero) f = omega arith
end_short (pos (suc n)) f = line-short (ascii " ") (pos (suc n)) f
end_short (negsuc k) f = line-short (ascii " ") (negsuc k) f

pub value-short :
    (ws : List ℤ) (N v : ℕ) → v < 100 → SFits w64 (word ws (3 + v)) → SFits w64 (word ws (3 + N + v))
    → length (value_line ws N v) ≤ most_value_line
unfolding value_line ascii
value-short ws N v few f g =
    simp length-append
    (omega (arith, digits-short 1 v few, decimal-short (word ws (3 + v)) f, end_short (word ws (3 + N + v)) g))

pub multipliers-short :
    (ws : List ℤ) (N v : ℕ) → v < 100 → SFits w64 (word ws (3 + v)) → SFits w64 (word ws (3 + N + v))
    → length (multiplier_lines ws N v) ≤ most_multiplier_lines
unfolding multiplier_lines ascii
multipliers-short ws N v few f g =
    rw length-append
    (omega (
      arith,
      multiplier-short v (ascii " lower ") few (word ws (3 + v)) f,
      multiplier-short v (ascii " upper ") few (word ws (3 + N + v)) g,
    ))

pub lines-longer :
    (v : ℕ) (f : ℕ → List ℕ) → length (lines_below (v + 1) f) ≡ length (lines_below v f) + length (f v)
unfolding lines_below
lines-longer v f = ap (λ k. length (lines_below k f)) (add-one v) ∙ length-append (lines_below v f) (f v)

-- one line with those before it is no longer than all
pub lines-inside :
    (k v : ℕ) (f : ℕ → List ℕ) → v < k → length (lines_below v f) + length (f v) ≤ length (lines_below k f)
lines-inside zero v f h = absurd (omega arith)
lines-inside (suc k) v f h = elim (dec_lt v k) [
  | yes s ↦ let r = lines-inside k v f s in let l = lines-longer k f in rw (← add-one k) (omega (arith, r, l))
  | no s ↦
      let e : v ≡ k = omega arith in
      rw (e, ← add-one k) (omega (arith, lines-longer k f))
]

pub lines-bounded :
    (k b : ℕ) (f : ℕ → List ℕ) → ((v : ℕ) → v < k → length (f v) ≤ b) → length (lines_below k f) ≤ b * k
unfolding lines_below
lines-bounded zero b f h = omega arith
lines-bounded (suc k) b f h =
    let r = lines-bounded k b f (λ v l. h v (omega arith)) in
    rw length-append (omega (arith, r, h k (omega arith), mul-suc b k))

-- ---- whole texts

module _ (ws : List ℤ) (N : ℕ) (few : N ≤ most_variables) where
  pub can-short :
      length (head_lines (ascii "can\n") ws) ≤ 4 + most_pivots_line → SFits w64 (word ws 2)
      → length (lines_below N (value_line ws N)) ≤ most_value_line * N
      → length (can_text ws N) ≤ most_text
  unfolding can_text ascii
  can-short h f l = simp length-append (omega (arith, line-short (ascii "over ") (word ws 2) f))

  pub cannot-short :
      length (head_lines (ascii "cannot\n") ws) ≤ 7 + most_pivots_line
      → length (lines_below N (multiplier_lines ws N)) ≤ most_multiplier_lines * N
      → length (cannot_text ws N) ≤ most_text
  unfolding cannot_text
  cannot-short h l = rw length-append (omega arith)

pub range-short :
    (ws : List ℤ) → length (head_lines (ascii "range\n") ws) ≤ 6 + most_pivots_line
    → length (range_text ws) ≤ most_text
unfolding range_text
range-short ws h = omega arith

pub refusal-text-short : (k : ℕ) → SFits w64 (pos k) → length (refusal_text k) ≤ most_text
unfolding refusal_text ascii
refusal-text-short k f = omega (arith, line-short (ascii "refused ") (pos k) f)
