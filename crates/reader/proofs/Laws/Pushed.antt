-- Words one behind the other, at the front of an array of zeros.
--   push-start, push-more     nothing is there yet; one word more
--   push-length, push-take    how long the array is; the words again
use mathlib.Core.List.{List, [], ◌∷◌, ◌++◌, append_assoc}
use mathlib.Core.Path.{◌≡◌, refl, sym, ◌∙◌, ap}
use Prim.Native.Nat.{ℕ, suc, ◌+◌, ◌-◌, ◌≤◌, ◌<◌}
use native.Mathlib.Omega.{arith}
use lib.IntN.{ℤ, pos}
use lib.ListN.{length, length-append, length-replicate, replicate, set, take}
use lib.Seq.{set-append_seam, take-append_seam}
use Rattle.rules.specs.Sizes.{most_words}
use Rattle.reader.specs.Course.{pushed}

pub push-start : replicate most_words (pos 0) ≡ pushed []
unfolding pushed
push-start = refl

module _ (ws : List ℤ) where
  pub push-more : (z : ℤ) (at : ℕ) → at ≡ length ws → at < most_words → set (pushed ws) at z ≡ pushed (ws ++ (z ∷ []))
  unfolding pushed
  push-more z at q h =
      let left = most_words - length (ws ++ (z ∷ [])) in
      let e : most_words - length ws ≡ suc left = omega (arith, length-append ws (z ∷ [])) in
      ap (λ k. set (ws ++ replicate (most_words - length ws) (pos 0)) k z) q
      ∙ ap (λ k. set (ws ++ replicate k (pos 0)) (length ws) z) e
      ∙ set-append_seam ws (pos 0) (replicate left (pos 0)) z
      ∙ sym (append_assoc ws (z ∷ []) (replicate left (pos 0)))

  pub push-length : length ws ≤ most_words → length (pushed ws) ≡ most_words
  unfolding pushed
  push-length h = length-append ws (replicate (most_words - length ws) (pos 0))
      ∙ ap (λ k. length ws + k) (length-replicate (most_words - length ws) (pos 0)) ∙ (omega arith)

  pub push-take : take (length ws) (pushed ws) ≡ ws
  unfolding pushed
  push-take = take-append_seam ws (replicate (most_words - length ws) (pos 0))
