-- The text of an answer asks only for its first 3 + 2N words.
--   answer-text-same
--   lines_same          lines that are the same one by one are the same together
use mathlib.Core.Bool.{cond}
use mathlib.Core.List.{List, ◌++◌}
use mathlib.Core.Path.{ap, ap₂, refl, ◌∙◌, ◌≡◌}
use Prim.Native.Nat.{suc, zero, ℕ, ◌*◌, ◌+◌, ◌<◌}
use native.Mathlib.Omega.{arith}
use lib.IntN.{pos, ℤ}
use Rattle.whole.specs.Numbers.{eq_z}
use Rattle.rules.specs.Problem.{word}
use Rattle.rules.specs.Program.Text.{answer_text, ascii, can_text, cannot_text, decimal, digits, head_lines, line}
use Rattle.rules.specs.Program.Text.{lines_below, multiplier_line, multiplier_lines, range_text, small_end, value_line}

pub lines_same : (k : ℕ) (f g : ℕ → List ℕ) → ((v : ℕ) → v < k → f v ≡ g v) → lines_below k f ≡ lines_below k g
unfolding lines_below
lines_same zero f g h = refl
lines_same (suc k) f g h = ap₂ ◌++◌ (lines_same k f g (λ v l. h v (omega arith))) (h k (omega arith))

module _ (ws us : List ℤ) (N : ℕ) (same : (i : ℕ) → i < 3 + 2 * N → word ws i ≡ word us i) where
  head-same : (verdict : List ℕ) → head_lines verdict ws ≡ head_lines verdict us
  unfolding head_lines
  head-same verdict = ap (λ z. verdict ++ line (ascii "pivots ") z) (same 1 (omega arith))

  can-same : can_text ws N ≡ can_text us N
  unfolding can_text value_line
  can-same = ap₂ ◌++◌ (ap₂ (λ h z. h ++ line (ascii "over ") z) (head-same (ascii "can\n")) (same 2 (omega arith)))
      (lines_same N (value_line ws N) (value_line us N) (λ v h.
      ap₂ (λ x y. digits v ++ ascii " " ++ decimal x ++ small_end y)
      (same (3 + v) (omega arith)) (same (3 + N + v) (omega arith))))

  cannot-same : cannot_text ws N ≡ cannot_text us N
  unfolding cannot_text multiplier_lines
  cannot-same = ap₂ ◌++◌ (head-same (ascii "cannot\n"))
      (lines_same N (multiplier_lines ws N) (multiplier_lines us N) (λ v h.
      ap₂ (λ l u. multiplier_line v (ascii " lower ") l ++ multiplier_line v (ascii " upper ") u)
      (same (3 + v) (omega arith)) (same (3 + N + v) (omega arith))))

  range_same : range_text ws ≡ range_text us
  unfolding range_text
  range_same = head-same (ascii "range\n")

  pub answer-text-same : answer_text ws N ≡ answer_text us N
  unfolding answer_text
  answer-text-same = ap (λ z. texts z ws) (same 0 (omega arith)) ∙ at (word us 0)
    where
      texts : ℤ → List ℤ → List ℕ
      texts z a = cond (eq_z z (pos 1)) (can_text a N) (cond (eq_z z (pos 2)) (cannot_text a N) (range_text a))

      at : (z : ℤ) → texts z ws ≡ texts z us
      at z = ap₂ (λ c r. cond (eq_z z (pos 1)) c r) can-same
          (ap₂ (λ c r. cond (eq_z z (pos 2)) c r) cannot-same range_same)
