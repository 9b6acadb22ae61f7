-- Which text an answer has, by its verdict; a multiplier's line and a small part's, by whether it is 0.
--   multiplier-none, multiplier-some        no line, or the variable's
--   end_none, end-some                      the newline alone, or a space and the small part before it
--   text-can, text-cannot, text-range the text of verdict 1, of verdict 2, and of every other
use mathlib.Core.Path.{◌≡◌, refl}
use mathlib.Core.List.{List, []}
use Prim.Native.Nat.{ℕ, zero, suc}
use lib.IntN.{ℤ, pos, negsuc}
use Rattle.whole.proofs.Tells.{tells-eq_z, tells-false}
use Rattle.rules.specs.Problem.{word}
use Rattle.rules.specs.Program.Text.{answer_text, ascii, can_text, cannot_text, line, multiplier_line, range_text}
use Rattle.rules.specs.Program.Text.{small_end, variable_line}

module _ (v : ℕ) (between : List ℕ) where
  pub multiplier-none : (z : ℤ) → z ≡ pos 0 → multiplier_line v between z ≡ []
  unfolding multiplier_line
  multiplier-none z e = rw e refl

  pub multiplier-some : (z : ℤ) → (z ≡ pos 0 → ⊥) → multiplier_line v between z ≡ variable_line v between z
  unfolding multiplier_line
  multiplier-some (pos zero) h = absurd (h refl)
  multiplier-some (pos (suc n)) h = refl
  multiplier-some (negsuc k) h = refl

pub end_none : (z : ℤ) → z ≡ pos 0 → small_end z ≡ ascii "\n"
unfolding small_end
end_none z e = rw e refl

pub end-some : (z : ℤ) → (z ≡ pos 0 → ⊥) → small_end z ≡ line (ascii " ") z
unfolding small_end
end-some (pos zero) h = absurd (h refl)
end-some (pos (suc n)) h = refl
end-some (negsuc k) h = refl

module _ (ws : List ℤ) (N : ℕ) where
  pub text-can : word ws 0 ≡ pos 1 → answer_text ws N ≡ can_text ws N
  unfolding answer_text
  text-can e = rw e refl

  pub text-cannot : word ws 0 ≡ pos 2 → answer_text ws N ≡ cannot_text ws N
  unfolding answer_text
  text-cannot e = rw e refl

  pub text-range : (word ws 0 ≡ pos 1 → ⊥) → (word ws 0 ≡ pos 2 → ⊥) → answer_text ws N ≡ range_text ws
  unfolding answer_text
  text-range p q =
      rw (tells-false (tells-eq_z (word ws 0) (pos 1)) p, tells-false (tells-eq_z (word ws 0) (pos 2)) q) refl
