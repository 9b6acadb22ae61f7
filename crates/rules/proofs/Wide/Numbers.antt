-- Numbers of four words.
--   fits-exactly          the test of a number's words passes exactly where `Formed` holds
--   wide-within           no such number is larger than 2^127
--   limbs-are             a number's words stand for it
--   limbs-in              and are in their ranges, where the number is within 2^126
--   wide-form-at            the numbers of an answer in wide form are those of the answer
use mathlib.Core.Bool.{true}
use mathlib.Core.List.{List, [], ◌∷◌}
use mathlib.Core.Logic.{◌↔◌}
use mathlib.Core.Path.{ap, refl, sym, ◌∙◌, ◌≡◌}
use Prim.Native.Nat.{suc, zero, ℕ, ◌*◌, ◌+◌, ◌/◌, ◌%◌, ◌<◌, ◌≤◌}
use native.Mathlib.Omega.{arith}
use lib.Dec.{le→leb}
use lib.IntN.{negsuc, pos, ℤ, ◌*ℤ◌, ◌+ℤ◌, ◌-ℤ◌, neg_ℤ}
use lib.Signed.{◌≤ℤ◌}
use Rattle.whole.proofs.Lists.Tables.{table_at}
use Rattle.whole.proofs.Numbers.Sizes.{within_of}
use Rattle.whole.proofs.Ring.Nonneg.{nn-nat, of_le, slk, ◌⊞◌, ◌⊠◌}
use Rattle.whole.proofs.Ring.Reify.{reify}
use Rattle.whole.proofs.Ring.Tools.{le-at, ring-at}
use Rattle.whole.proofs.Tells.{tells-and, tells-lt_z, tells-not, tells-or, tells-outside, tells-true}
use Rattle.whole.specs.Numbers.{Within}
use Rattle.whole.specs.Tables.{table}
use Rattle.rules.specs.Facts.Wide.{Formed, HeadIn, LimbIn}
use Rattle.rules.specs.Problem.{word}
use Rattle.rules.specs.Sizes.{largest_head, largest_limb, largest_wide, limb_turn}
use Rattle.rules.specs.Wide.{head_fits, limb_at, limb_fits, limb_of, number_fits, numbers_of, wide_at, wide_number}
use Rattle.rules.specs.Wide.{wide_form}

-- ---- the words of a number

pub fits-exactly : (a : List ℤ) (slot : ℕ) → (number_fits a slot ≡ true) ↔ Formed a slot
unfolding number_fits limb_fits head_fits
fits-exactly a slot =
    let t = tells-and (tells-and (tells-and (tells-not (tells-outside 0 largest_limb (limb_at a slot 0)))
    (tells-not (tells-outside 0 largest_limb (limb_at a slot 1))))
    (tells-not (tells-outside 0 largest_limb (limb_at a slot 2))))
    (tells-not (tells-or (tells-lt_z (limb_at a slot 3) (negsuc largest_head))
    (tells-lt_z (pos largest_head) (limb_at a slot 3)))) in (
      λ e. let f = t.if-true e in record {
        limb-0 = f.0.0.0;
        limb-1 = f.0.0.1;
        limb-2 = f.0.1;
        head = f.1;
      },
      λ F. tells-true t (((F.limb-0, F.limb-1), F.limb-2), F.head),
    )

-- ---- how large it is

module _ (a b c d : ℤ) (A : LimbIn a) (B : LimbIn b) (C : LimbIn c) (D : HeadIn d) where
  high : wide_number a b c d ≤ℤ pos largest_wide
  high = le-at (a ∷ b ∷ c ∷ d ∷ [])
      (of_le A.1 ⊞ nn-nat 4294967296 ⊠ of_le B.1 ⊞ nn-nat 18446744073709551616 ⊠ of_le C.1
      ⊞ nn-nat 79228162514264337593543950336 ⊠ of_le D.1)
      (search reify depth 30 fits 20000) slk

  low : neg_ℤ (pos largest_wide) ≤ℤ wide_number a b c d
  low = le-at (a ∷ b ∷ c ∷ d ∷ [])
      (of_le A.0 ⊞ nn-nat 4294967296 ⊠ of_le B.0 ⊞ nn-nat 18446744073709551616 ⊠ of_le C.0
      ⊞ nn-nat 79228162514264337593543950336 ⊠ of_le D.0)
      (search reify depth 30 fits 20000) slk

  number-within : Within (wide_number a b c d) largest_wide
  number-within = within_of low high

pub wide-within : (a : List ℤ) (slot : ℕ) → Formed a slot → Within (wide_at a slot) largest_wide
wide-within a slot F = number-within _ _ _ _ F.limb-0 F.limb-1 F.limb-2 F.head

-- ---- the words that a number is put into

-- parts of a natural number
rest_sum : (n : ℕ) → n % limb_turn + limb_turn * (n / limb_turn % limb_turn + limb_turn *
    (n / limb_turn / limb_turn % limb_turn
    + limb_turn * (n / limb_turn / limb_turn / limb_turn))) ≡ n
rest_sum n = omega arith

-- .. with all bits turned round
turned-sum : (t a b c d : ℤ) → ((t -ℤ pos 1) -ℤ a) +ℤ t *ℤ (((t -ℤ pos 1) -ℤ b) +ℤ t *ℤ (((t -ℤ pos 1) -ℤ c)
    +ℤ t *ℤ (neg_ℤ (pos 1) -ℤ d))) ≡ neg_ℤ (pos 1) -ℤ (a +ℤ t *ℤ (b +ℤ t *ℤ (c +ℤ t *ℤ d)))
turned-sum t a b c d = ring-at (t ∷ a ∷ b ∷ c ∷ d ∷ []) (search reify depth 30 fits 20000) refl

below-zero : (n : ℕ) → negsuc n ≡ neg_ℤ (pos 1) -ℤ pos n
below-zero zero = refl
below-zero (suc n) = ap (λ k. negsuc (suc k)) (let z : n ≡ 0 + n = omega arith in z)

limbs-are : (z : ℤ) → wide_number (limb_of z 0) (limb_of z 1) (limb_of z 2) (limb_of z 3) ≡ z
unfolding limb_of
limbs-are (pos n) = ap pos (rest_sum n)
limbs-are (negsuc n) =
    ap (λ z. wide_number (limb_of (negsuc n) 0) (limb_of (negsuc n) 1) (limb_of (negsuc n) 2) z)
    (below-zero (n / limb_turn / limb_turn / limb_turn))
    ∙ turned-sum (pos limb_turn) (pos (n % limb_turn)) (pos (n / limb_turn % limb_turn))
    (pos (n / limb_turn / limb_turn % limb_turn)) (pos (n / limb_turn / limb_turn / limb_turn))
    ∙ ap (λ k. neg_ℤ (pos 1) -ℤ pos k) (rest_sum n)
    ∙ sym (below-zero n)

limb-up : (n : ℕ) → n ≤ largest_limb → LimbIn (pos n)
limb-up n h = (record { le = le→leb 0 n (omega arith) }, record { le = le→leb n largest_limb h })

limb-down : (n : ℕ) → n ≤ largest_limb → LimbIn (pos largest_limb -ℤ pos n)
limb-down n h = turned (pos n) (limb-up n h)
  where
    turned : (z : ℤ) → LimbIn z → LimbIn (pos largest_limb -ℤ z)
    turned z (l, m) = (
      le-at (z ∷ []) (of_le m) (search reify depth 30) slk,
      le-at (z ∷ []) (of_le l) (search reify depth 30) slk,
    )

-- the words of a number in their ranges
record LimbsIn (z : ℤ) : Type 0 where
  pub low-0 : LimbIn (limb_of z 0)
  pub low-1 : LimbIn (limb_of z 1)
  pub low-2 : LimbIn (limb_of z 2)
  pub top : HeadIn (limb_of z 3)

abbrev pub quarter : ℕ
quarter = 85070591730234615865843651857942052864

-- the parts of a natural number within 2^126
module _ (n : ℕ) (h : n ≤ quarter) where
  part-0 : n % limb_turn ≤ largest_limb
  part-0 = omega arith

  part-1 : n / limb_turn % limb_turn ≤ largest_limb
  part-1 = omega arith

  part-2 : n / limb_turn / limb_turn % limb_turn ≤ largest_limb
  part-2 = omega arith

  part-3 : n / limb_turn / limb_turn / limb_turn ≤ largest_head
  part-3 = omega arith

limbs-in : (z : ℤ) → Within z quarter → LimbsIn z
unfolding limb_of
limbs-in (pos n) h = let m : n ≤ quarter = h.within in record {
  low-0 = limb-up _ (part-0 n m);
  low-1 = limb-up _ (part-1 n m);
  low-2 = limb-up _ (part-2 n m);
  top = (record { le = tt }, record { le = le→leb (n / limb_turn / limb_turn / limb_turn) largest_head (part-3 n m) });
}
limbs-in (negsuc n) h = let m : n ≤ quarter = under n h.within in record {
  low-0 = limb-down _ (part-0 n m);
  low-1 = limb-down _ (part-1 n m);
  low-2 = limb-down _ (part-2 n m);
  top = (record { le = le→leb (n / limb_turn / limb_turn / limb_turn) largest_head (part-3 n m) }, record { le = tt });
}
  where
    under : (n : ℕ) → suc n ≤ quarter → n ≤ quarter
    under n h = omega arith

-- ---- an answer in wide form

module _ (N : ℕ) (a : List ℤ) (slot : ℕ) (h : slot < numbers_of N) where
  limb-is : (i : ℕ) → i < 4 → limb_at (wide_form N a) slot i ≡ limb_of (word a (2 + slot)) i
  unfolding wide_form
  limb-is i k =
      ap (word (word a 0 ∷ word a 1 ∷ table (4 * numbers_of N) f))
      (let z : 2 + 4 * slot + i ≡ suc (suc (4 * slot + i)) =
      omega arith in z)
      ∙ table_at (4 * numbers_of N) f (pos 0) (4 * slot + i) (omega arith)
      ∙ ap (λ s. limb_of (word a (2 + s)) ((4 * slot + i) % 4)) (let z : (4 * slot + i) / 4 ≡ slot = omega arith in z)
      ∙ ap (limb_of (word a (2 + slot))) (let z : (4 * slot + i) % 4 ≡ i = omega arith in z)
    where
      f : ℕ → ℤ
      f k = limb_of (word a (2 + k / 4)) (k % 4)

  pub wide-form-at : wide_at (wide_form N a) slot ≡ word a (2 + slot)
  wide-form-at = rw (limb-is 0 (omega arith), limb-is 1 (omega arith), limb-is 2 (omega arith), limb-is 3 (omega arith))
      (limbs-are (word a (2 + slot)))

  pub wide-form-formed : Within (word a (2 + slot)) quarter → Formed (wide_form N a) slot
  wide-form-formed w = let L = limbs-in (word a (2 + slot)) w in record {
    limb-0 = rw (limb-is 0 (omega arith)) L.low-0;
    limb-1 = rw (limb-is 1 (omega arith)) L.low-1;
    limb-2 = rw (limb-is 2 (omega arith)) L.low-2;
    head = rw (limb-is 3 (omega arith)) L.top;
  }
