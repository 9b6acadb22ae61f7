-- The number that limbs stand for.
--   value-plus, value-less, value-times      limb by limb is number by number
--   value_of_lem                                             a number of one word
--   quot-rem, value-settled                              carries change no number
use mathlib.Core.List.{[], ◌∷◌}
use mathlib.Core.Path.{ap, refl, ◌∙◌, ◌≡◌}
use Prim.Native.Nat.{ℕ, suc, ◌*◌, ◌+◌, ◌/◌, ◌%◌}
use native.Mathlib.Omega.{arith}
use lib.IntN.{negsuc, neg_ℤ, pos, ℤ, ◌*ℤ◌, ◌+ℤ◌, ◌-ℤ◌}
use lib.Signed.{quot_z, rem_z}
use Rattle.whole.proofs.Ring.Reify.{reify}
use Rattle.whole.proofs.Ring.Tools.{ring-at}
use Rattle.rules.specs.Sizes.{limb_turn}
use Rattle.limbs.specs.Limbs.{less_of, of_number, plus_of, second_of, settled_of, third_of, scaled_of, value}
use Rattle.limbs.specs.declared.Wide.{Wide}

abbrev T : ℤ
T = pos limb_turn

-- with any number for 2^32
abbrev number_by : ℤ → ℤ → ℤ → ℤ → ℤ → ℤ
number_by t a b c d = a +ℤ t *ℤ (b +ℤ t *ℤ (c +ℤ t *ℤ d))

module _ (t a b c d e f g h : ℤ) where
  plus-by : number_by t (a +ℤ e) (b +ℤ f) (c +ℤ g) (d +ℤ h) ≡ number_by t a b c d +ℤ number_by t e f g h
  plus-by = ring-at (t ∷ a ∷ b ∷ c ∷ d ∷ e ∷ f ∷ g ∷ h ∷ []) (search reify depth 30 fits 20000) refl

  less_by : number_by t (a -ℤ e) (b -ℤ f) (c -ℤ g) (d -ℤ h) ≡ number_by t a b c d -ℤ number_by t e f g h
  less_by = ring-at (t ∷ a ∷ b ∷ c ∷ d ∷ e ∷ f ∷ g ∷ h ∷ []) (search reify depth 30 fits 20000) refl

times-by : (t k a b c d : ℤ) → number_by t (k *ℤ a) (k *ℤ b) (k *ℤ c) (k *ℤ d) ≡ k *ℤ number_by t a b c d
times-by t k a b c d = ring-at (t ∷ k ∷ a ∷ b ∷ c ∷ d ∷ []) (search reify depth 30 fits 20000) refl

pub value-plus : (v w : Wide) → value (plus_of v w) ≡ value v +ℤ value w
value-plus v w = plus-by T v.a v.b v.c v.d w.a w.b w.c w.d

pub value-less : (v w : Wide) → value (less_of v w) ≡ value v -ℤ value w
value-less v w = less_by T v.a v.b v.c v.d w.a w.b w.c w.d

pub value-times : (k : ℤ) (w : Wide) → value (scaled_of k w) ≡ k *ℤ value w
value-times k w = times-by T k w.a w.b w.c w.d

-- ---- carries

parts-of : (n : ℕ) → n % limb_turn + limb_turn * (n / limb_turn) ≡ n
parts-of n = omega arith

turned : (t r q : ℤ) → neg_ℤ r +ℤ t *ℤ neg_ℤ q ≡ neg_ℤ (r +ℤ t *ℤ q)
turned t r q = ring-at (t ∷ r ∷ q ∷ []) (search reify depth 30) refl

quot-rem : (z : ℤ) → rem_z z (pos limb_turn) +ℤ pos limb_turn *ℤ quot_z z (pos limb_turn) ≡ z
quot-rem (pos n) = ap pos (parts-of n)
quot-rem (negsuc n) = turned T (pos (suc n % limb_turn)) (pos (suc n / limb_turn))
    ∙ ap (λ k. neg_ℤ (pos k)) (parts-of (suc n))

-- r and q of a, then of b with what is carried, then of c
carried : (t a b c d r q s p u v : ℤ) → r +ℤ t *ℤ q ≡ a → s +ℤ t *ℤ p ≡ b +ℤ q → u +ℤ t *ℤ v ≡ c +ℤ p →
    number_by t r s u (d +ℤ v) ≡ number_by t a b c d
carried t a b c d r q s p u v e f g =
    split t d r s u v
    ∙ ap (λ z. r +ℤ t *ℤ (s +ℤ t *ℤ (z +ℤ t *ℤ d))) g
    ∙ split-next t c d r s p
    ∙ ap (λ z. r +ℤ t *ℤ (z +ℤ t *ℤ (c +ℤ t *ℤ d))) f
    ∙ split-last t b c d r q
    ∙ ap (λ z. z +ℤ t *ℤ (b +ℤ t *ℤ (c +ℤ t *ℤ d))) e
  where
    split : (t d r s u v : ℤ) → number_by t r s u (d +ℤ v) ≡ r +ℤ t *ℤ (s +ℤ t *ℤ ((u +ℤ t *ℤ v) +ℤ t *ℤ d))
    split t d r s u v = ring-at (t ∷ d ∷ r ∷ s ∷ u ∷ v ∷ []) (search reify depth 30 fits 20000) refl

    split-next : (t c d r s p : ℤ) →
        r +ℤ t *ℤ (s +ℤ t *ℤ ((c +ℤ p) +ℤ t *ℤ d)) ≡ r +ℤ t *ℤ ((s +ℤ t *ℤ p) +ℤ t *ℤ (c +ℤ t *ℤ d))
    split-next t c d r s p = ring-at (t ∷ c ∷ d ∷ r ∷ s ∷ p ∷ []) (search reify depth 30 fits 20000) refl

    split-last : (t b c d r q : ℤ) →
        r +ℤ t *ℤ ((b +ℤ q) +ℤ t *ℤ (c +ℤ t *ℤ d)) ≡ (r +ℤ t *ℤ q) +ℤ t *ℤ (b +ℤ t *ℤ (c +ℤ t *ℤ d))
    split-last t b c d r q = ring-at (t ∷ b ∷ c ∷ d ∷ r ∷ q ∷ []) (search reify depth 30 fits 20000) refl

pub value-settled : (w : Wide) → value (settled_of w) ≡ value w
value-settled w = carried T w.a w.b w.c w.d
    (rem_z w.a T) (quot_z w.a T) (rem_z (second_of w) T) (quot_z (second_of w) T) (rem_z (third_of w) T)
    (quot_z (third_of w) T) (quot-rem w.a) (quot-rem (second_of w)) (quot-rem (third_of w))

pub value_of_lem : (z : ℤ) → value (of_number z) ≡ z
value_of_lem z = plain T (rem_z z (pos limb_turn)) (quot_z z (pos limb_turn)) ∙ quot-rem z
  where
    plain : (t r q : ℤ) → number_by t r q (pos 0) (pos 0) ≡ r +ℤ t *ℤ q
    plain t r q = ring-at (t ∷ r ∷ q ∷ []) (search reify depth 30) refl
