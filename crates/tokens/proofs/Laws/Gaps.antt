-- How a gap and a run go on, byte by byte, and where they end.
--   gap-in, gap-out, gap-end       a byte that stands between tokens, one that does not, and the end of the text
--   run_in, run_out, run-over       the same of a run
--   stop-single, stop-run          where a token stops: a parenthesis, a run
use mathlib.Core.Bool.{Bool, true, false}
use mathlib.Core.List.{List, ◌∷◌}
use mathlib.Core.Path.{◌≡◌, refl, sym, ◌∙◌, ap}
use Prim.Native.Nat.{ℕ, suc, ◌+◌, ◌≤◌, ◌<◌}
use native.Mathlib.Numerals.{add-one}
use native.Mathlib.Omega.{arith}
use lib.ListN.{drop, drop_of_length-le, get_or, length}
use lib.Seq.{drop-cons}
use Rattle.rules.specs.Exchange.Tokens.{is_parenthesis, is_plain}
use Rattle.tokens.specs.Gaps.{gap_length, noting, stands_between, run_length, stop_at, width}

pub gap-passed : (noted : Bool) (b : ℕ) (t : List ℕ) → stands_between noted b ≡ true → gap_length noted (b ∷ t)
    ≡ suc (gap_length (noting noted b) t)
unfolding gap_length
gap-passed noted b t e = rw (e, gap_length) refl

pub gap-stopped : (noted : Bool) (b : ℕ) (t : List ℕ) → stands_between noted b ≡ false → gap_length noted (b ∷ t) ≡ 0
unfolding gap_length
gap-stopped noted b t e = rw (e, gap_length) refl

pub run-passed : (b : ℕ) (t : List ℕ) → is_plain b ≡ true → run_length (b ∷ t) ≡ suc (run_length t)
unfolding run_length
run-passed b t e = rw (e, run_length) refl

pub run-stopped : (b : ℕ) (t : List ℕ) → is_plain b ≡ false → run_length (b ∷ t) ≡ 0
unfolding run_length
run-stopped b t e = rw (e, run_length) refl

module _ (t : List ℕ) (k : ℕ) where
  pub gap-in : (noted : Bool) → k < length t → stands_between noted (get_or t k 0) ≡ true →
      k + gap_length noted (drop k t) ≡ k + 1 + gap_length (noting noted (get_or t k 0)) (drop (k + 1) t)
  gap-in noted h e =
      ap (λ l. k + gap_length noted l) (drop-cons t k 0 h)
      ∙ ap (λ n. k + n) (gap-passed noted (get_or t k 0) (drop (suc k) t) e) ∙ (rw add-one (omega arith))

  pub gap-out : (noted : Bool) → k < length t → stands_between noted (get_or t k 0) ≡ false →
      k + gap_length noted (drop k t) ≡ k
  gap-out noted h e =
      ap (λ l. k + gap_length noted l) (drop-cons t k 0 h)
      ∙ ap (λ n. k + n) (gap-stopped noted (get_or t k 0) (drop (suc k) t) e) ∙ (omega arith)

  pub gap-end : (noted : Bool) → length t ≤ k → k + gap_length noted (drop k t) ≡ k
  unfolding gap_length
  gap-end noted h = ap (λ l. k + gap_length noted l) (drop_of_length-le t h) ∙ (omega arith)

  pub run_in : k < length t → is_plain (get_or t k 0) ≡ true → k + run_length (drop k t)
      ≡ k + 1 + run_length (drop (k + 1) t)
  run_in h e =
      ap (λ l. k + run_length l) (drop-cons t k 0 h)
      ∙ ap (λ n. k + n) (run-passed (get_or t k 0) (drop (suc k) t) e) ∙ (rw add-one (omega arith))

  pub run_out : k < length t → is_plain (get_or t k 0) ≡ false → k + run_length (drop k t) ≡ k
  run_out h e =
      ap (λ l. k + run_length l) (drop-cons t k 0 h)
      ∙ ap (λ n. k + n) (run-stopped (get_or t k 0) (drop (suc k) t) e) ∙ (omega arith)

  pub run-over : length t ≤ k → k + run_length (drop k t) ≡ k
  unfolding run_length
  run-over h = ap (λ l. k + run_length l) (drop_of_length-le t h) ∙ (omega arith)

pub width-single : (b : ℕ) (t : List ℕ) → is_parenthesis b ≡ true → width (b ∷ t) ≡ 1
unfolding width
width-single b t e = rw (e, width) refl

pub width-run : (b : ℕ) (t : List ℕ) → is_parenthesis b ≡ false → width (b ∷ t) ≡ suc (run_length t)
unfolding width
width-run b t e = rw (e, width) refl

module _ (t : List ℕ) (at : ℕ) (h : at < length t) where
  pub stop-single : is_parenthesis (get_or t at 0) ≡ true → stop_at t at ≡ at + 1
  unfolding stop_at
  stop-single e = ap (λ l. at + width l) (drop-cons t at 0 h)
      ∙ ap (λ n. at + n) (width-single (get_or t at 0) (drop (suc at) t) e)

  pub stop-run : is_parenthesis (get_or t at 0) ≡ false → stop_at t at ≡ at + 1 + run_length (drop (at + 1) t)
  unfolding stop_at
  stop-run e = ap (λ l. at + width l) (drop-cons t at 0 h)
      ∙ ap (λ n. at + n) (width-run (get_or t at 0) (drop (suc at) t) e)
      ∙ (let z : at + suc (run_length (drop (suc at) t)) ≡ at + 1 + run_length (drop (suc at) t) = omega arith in z)
      ∙ ap (λ k. at + 1 + run_length (drop k t)) (sym (add-one at))
