-- Where the bodies of a file stand, as counts.
--   count_before, sum-counts, counts-rise    a sum of numbers that are not negative is a count, and rises
--   bodies-few, edition-rows, editions-few    what an edition allows is within the sizes; there are few editions
--   edition-own, count-own, bodies-counted, first-own    words of an accepted file as counts
--   place, place_end, place-within                  where body i starts, and that it ends within the file
use mathlib.Core.List.{List}
use mathlib.Core.Path.{◌≡◌, ap, ap₂, refl, sym, ◌∙◌}
use Prim.Native.Nat.{ℕ, zero, suc, ◌+◌, ◌≤◌, ◌<◌}
use native.Mathlib.Decide.{dec_lt}
use native.Mathlib.Omega.{arith}
use lib.IntN.{ℤ, pos, nat_abs, ◌+ℤ◌}
use lib.ListN.{length}
use lib.Signed.{◌≤ℤ◌}
use Rattle.whole.specs.Sums.{sum, sum_by}
use Rattle.whole.proofs.Numbers.Tests.{own-size, under-size}
use Rattle.rules.specs.Problem.{word}
use Rattle.rules.specs.Sizes.{most_bodies, most_rows}
use Rattle.rules.specs.Bundle.File.{bodies_most, count_in, edition, edition_in, editions, pair_first, head_size}
use Rattle.rules.specs.Bundle.File.{pair_length, rows_in, start_for}
use Rattle.rules.specs.Bundle.Facts.{FileAccepted}

-- ---- editions

pub bodies-few : (e : ℕ) → bodies_most e ≤ most_bodies
unfolding edition editions
bodies-few zero = omega arith
bodies-few (suc zero) = omega arith
bodies-few (suc (suc zero)) = omega arith
bodies-few (suc (suc (suc e))) = omega arith

pub edition-rows : (e : ℕ) → rows_in e ≤ most_rows
unfolding edition editions
edition-rows zero = omega arith
edition-rows (suc zero) = omega arith
edition-rows (suc (suc zero)) = omega arith
edition-rows (suc (suc (suc e))) = omega arith

pub editions-few : length editions ≤ most_bodies
unfolding editions
editions-few = omega arith

-- ---- sums

-- the sizes of the numbers before i
unfoldable pub count_before : ℕ → (ℕ → ℤ) → ℕ
count_before zero f = 0
count_before (suc i) f = count_before i f + nat_abs (f i)

pub sum-counts : (k : ℕ) (f : ℕ → ℤ) → ((i : ℕ) → i < k → pos 0 ≤ℤ f i) → (i : ℕ) → i ≤ k →
    sum i f ≡ pos (count_before i f)
unfolding count_before sum_by
sum-counts k f h zero l = refl
sum-counts k f h (suc i) l =
    ap₂ (λ a b. a +ℤ b) (sum-counts k f h i (omega arith)) (own-size 0 (f i) (h i (omega arith)))

pub counts-rise : (k : ℕ) (f : ℕ → ℤ) (i : ℕ) → i ≤ k → count_before i f ≤ count_before k f
unfolding count_before
counts-rise zero f zero l = omega arith
counts-rise zero f (suc i) l = absurd (omega arith)
counts-rise (suc k) f i l = elim (dec_lt i (suc k)) [
  | yes s ↦ omega (arith, counts-rise k f i (omega arith))
  | no s ↦ let e : i ≡ suc k = omega arith in rw e (omega arith)
]

-- one number more
pub counts-next : (i : ℕ) (f : ℕ → ℤ) → count_before (suc i) f ≡ count_before i f + nat_abs (f i)
unfolding count_before
counts-next i f = refl

pub counts-none : (f : ℕ → ℤ) → count_before 0 f ≡ 0
unfolding count_before
counts-none f = refl

-- ---- an accepted file

module _ {bs : List ℕ} {ws : List ℤ} (A : FileAccepted bs ws) where
  abbrev k : ℕ
  k = count_in ws

  pub edition-own : word ws 0 ≡ pos (edition_in ws)
  edition-own = own-size 1 (word ws 0) A.edition-least

  pub count-own : word ws 1 ≡ pos k
  count-own = own-size 0 (word ws 1) A.count-least

  pub bodies-counted : k ≤ most_bodies
  bodies-counted = omega (
    arith,
    bodies-few (edition_in ws),
    under-size (bodies_most (edition_in ws)) 0 (word ws 1)
        A.count-least A.count_most,
  )

  -- where body i starts; k is the end of the last
  abbrev pub place : ℕ → ℕ
  place i = head_size k + count_before i (pair_length ws)

  start_is : (i : ℕ) → i ≤ k → start_for k (pair_length ws) i ≡ pos (place i)
  start_is i h = ap (λ z. pos (head_size k) +ℤ z) (sum-counts k (pair_length ws) A.lengths i h)

  pub place_end : place k ≡ length ws
  place_end = ap nat_abs (sym (start_is k (omega arith)) ∙ A.total)

  pub place-within : (i : ℕ) → i < k → place i + nat_abs (pair_length ws i) ≤ length ws
  place-within i h = omega (arith, place_end, counts-next i (pair_length ws), counts-rise k (pair_length ws) (suc i) h)

  pub first-own : (i : ℕ) → i < k → pair_first ws i ≡ pos (place i)
  first-own i h = A.starts i h ∙ start_is i (omega arith)
