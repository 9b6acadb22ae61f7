-- Body i is a part of the words of an accepted file, from where its pair says.
--   edition-within    the edition is a small number
--   first-least    its first word is not negative
--   pair-within, part-within    it ends within the words
--   part_body      the part is the body
use mathlib.Core.List.{List}
use mathlib.Core.Path.{◌≡◌, ap, subst, sym}
use Prim.Native.Nat.{ℕ, ◌+◌, ◌-◌, ◌≤◌, ◌<◌}
use native.Mathlib.Omega.{arith}
use lib.Dec.{le→leb}
use lib.IntN.{ℤ, nat_abs, pos}
use lib.ListN.{drop, length, take}
use lib.Signed.{◌≤ℤ◌}
use Rattle.whole.proofs.Numbers.Tests.{under-size}
use Rattle.rules.specs.Problem.{word}
use Rattle.rules.specs.Sizes.{most_bodies}
use Rattle.rules.specs.Bundle.File.{body_in, count_in, edition_in, editions, pair_first, pair_length}
use Rattle.rules.specs.Bundle.Facts.{FileAccepted}
use Rattle.rules.proofs.Bundle.Places.{editions-few, first-own, place, place-within}
use Rattle.bundle.specs.declared.body.Part.{Part}
use Rattle.bundle.specs.Opened.{part_at}

pub edition-within : {bs : List ℕ} {ws : List ℤ} → FileAccepted bs ws → edition_in ws ≤ most_bodies
edition-within {ws = ws} A = omega (
  arith,
  editions-few,
  under-size (length editions) 1 (word ws 0) A.edition-least A.edition-most,
)

module _ {bs : List ℕ} {ws : List ℤ} (A : FileAccepted bs ws) (i : ℕ) (h : i < count_in ws) where
  pub first-least : pos 0 ≤ℤ pair_first ws i
  first-least = subst (λ z. pos 0 ≤ℤ z) (sym (first-own A i h)) (record { le = le→leb 0 (place A i) (omega arith) })

  pub pair-within : nat_abs (pair_first ws i) + nat_abs (pair_length ws i) ≤ length ws
  pair-within = omega (arith, ap nat_abs (first-own A i h), place-within A i h)

  pub part-within : (p : Part) → p ≡ part_at ws i → (p.first ≤ p.end) × (p.end ≤ length ws)
  unfolding part_at
  part-within p e = rw e (omega arith, pair-within)

  pub part_body : (p : Part) → p ≡ part_at ws i → take (p.end - p.first) (drop p.first ws) ≡ body_in ws i
  unfolding part_at body_in
  part_body p e =
      let f = nat_abs (pair_first ws i) in let n = nat_abs (pair_length ws i) in
      let size : f + n - f ≡ n = omega arith in rw e (ap (λ k. take k (drop f ws)) size)
