-- Where gaps and tokens may end.
--   start-most, start-least, stop-ends  not past the text's end; not before; a token has a byte
--   start-again                         no gap starts behind one
--   token_ends                          for slices of a token
use mathlib.Core.Bool.{Bool, true, false}
use mathlib.Core.List.{List, [], ◌∷◌}
use mathlib.Core.Path.{◌≡◌, refl, sym, ◌∙◌, ap}
use Prim.Native.Nat.{ℕ, suc, ◌+◌, ◌≤◌, ◌<◌}
use native.Mathlib.Omega.{arith}
use lib.ListN.{drop, get_or, length, length-drop}
use lib.Seq.{drop-cons, drop-drop}
use Rattle.whole.proofs.Bools.{true-false}
use Rattle.rules.specs.Exchange.Tokens.{is_parenthesis, is_plain}
use Rattle.tokens.specs.Gaps.{gap_length, noting, stands_between, run_length, start_at, stop_at, width}
use Rattle.tokens.proofs.Laws.Gaps.{gap-passed, gap-stopped, run-passed, run-stopped, width-run, width-single}

gap-short : (noted : Bool) (t : List ℕ) → gap_length noted t ≤ length t
unfolding gap_length
gap-short noted [] = omega arith
gap-short noted (b ∷ t) = go (stands_between noted b) refl (gap-short (noting noted b) t)
  where
    go : (c : Bool) → stands_between noted b ≡ c → gap_length (noting noted b) t ≤ length t →
        gap_length noted (b ∷ t) ≤ suc (length t)
    go true e h = omega (arith, gap-passed noted b t e)
    go false e h = omega (arith, gap-stopped noted b t e)

run_short : (t : List ℕ) → run_length t ≤ length t
unfolding run_length
run_short [] = omega arith
run_short (b ∷ t) = go (is_plain b) refl (run_short t)
  where
    go : (c : Bool) → is_plain b ≡ c → run_length t ≤ length t → run_length (b ∷ t) ≤ suc (length t)
    go true e h = omega (arith, run-passed b t e)
    go false e h = omega (arith, run-stopped b t e)

width-short : (b : ℕ) (t : List ℕ) → (1 ≤ width (b ∷ t)) × (width (b ∷ t) ≤ suc (length t))
width-short b t = go (is_parenthesis b) refl
  where
    go : (c : Bool) → is_parenthesis b ≡ c → (1 ≤ width (b ∷ t)) × (width (b ∷ t) ≤ suc (length t))
    go true e = omega (arith, width-single b t e)
    go false e = omega (arith, width-run b t e, run_short t)

-- behind a gap no other starts
gap-over : (noted : Bool) (t : List ℕ) → gap_length false (drop (gap_length noted t) t) ≡ 0
unfolding gap_length stands_between
gap-over noted [] = refl
gap-over noted (b ∷ t) = go (stands_between noted b) refl (gap-over (noting noted b) t)
  where
    stopped : (n : Bool) → stands_between n b ≡ false → gap_length false (b ∷ t) ≡ 0
    stopped true e = true-false (always b) e
      where
        always : (b : ℕ) → stands_between true b ≡ true
        always b = refl
    stopped false e = gap-stopped false b t e

    go : (c : Bool) → stands_between noted b ≡ c → gap_length false (drop (gap_length (noting noted b) t) t) ≡ 0 →
        gap_length false (drop (gap_length noted (b ∷ t)) (b ∷ t)) ≡ 0
    go true e h = ap (λ k. gap_length false (drop k (b ∷ t))) (gap-passed noted b t e) ∙ h
    go false e h = ap (λ k. gap_length false (drop k (b ∷ t))) (gap-stopped noted b t e) ∙ stopped noted e

module _ (t : List ℕ) (at : ℕ) where
  pub start-most : at ≤ length t → start_at t at ≤ length t
  unfolding start_at
  start-most h = omega (arith, gap-short false (drop at t), length-drop at t)

  pub start-least : at ≤ start_at t at
  unfolding start_at
  start-least = omega arith

  pub start-again : start_at t (start_at t at) ≡ start_at t at
  unfolding start_at
  start-again =
      ap (λ l. at + gap_length false (drop at t) + gap_length false l)
      (sym (drop-drop (gap_length false (drop at t)) at t))
      ∙ ap (λ k. at + gap_length false (drop at t) + k) (gap-over false (drop at t)) ∙ (omega arith)

  pub stop-ends : at < length t → (at < stop_at t at) × (stop_at t at ≤ length t)
  unfolding stop_at
  stop-ends h =
      let w = width-short (get_or t at 0) (drop (suc at) t) in
      let e : width (drop at t) ≡ width (get_or t at 0 ∷ drop (suc at) t) = ap width (drop-cons t at 0 h) in
      omega (arith, w, e, length-drop (suc at) t)

pub ruleset token_ends = (stop-ends, start-least)
