-- The sign of a number by its limbs.
--   sign-over        a limb below 2^32 has the sign where what is above it is 0
--   sign-limbs, highest-d, highest-c, ..       so the highest limb that is not 0 has it
--   signum-sign      the library's sign is the sign
--   sign_zero, sign_above, sign_below       the sign is 0, above or below 0 exactly where the number is
use mathlib.Core.Logic.{◌≢◌}
use mathlib.Core.List.{[], ◌∷◌}
use mathlib.Core.Path.{ap, refl, sym, ◌∙◌, ◌≡◌}
use Prim.Native.Nat.{suc, zero, ◌<◌}
use native.Mathlib.Omega.{arith}
use lib.Dec.{ltb→lt}
use lib.IntN.{nat_abs, negsuc, pos, ℤ, ◌*ℤ◌, ◌+ℤ◌}
use lib.Signed.{<ℤ_irrefl, lt_z, ◌<ℤ◌}
use Rattle.std.specs.Int.{int_signum}
use Rattle.whole.proofs.Numbers.Order.{Sign, minus, null, plus, sign}
use Rattle.whole.proofs.Numbers.Sizes.{within-hi, within-lo}
use Rattle.whole.proofs.Ring.Nonneg.{nn-nat, of_le, of_lt, slk, ◌⊞◌, ◌⊠◌}
use Rattle.whole.proofs.Ring.Reify.{reify}
use Rattle.whole.proofs.Ring.Tools.{lt_at, ring-at}
use Rattle.whole.proofs.Tells.{tells-eq_z, tells-false, tells-lt, tells-true}
use Rattle.whole.specs.Numbers.{Within, eq_z}
use Rattle.rules.specs.Sizes.{largest_limb, limb_turn}
use Rattle.limbs.specs.Limbs.{Carried, pick, sign_of, value}
use Rattle.limbs.specs.declared.Wide.{Wide}

sign-up : (z : ℤ) → pos 0 <ℤ z → sign_of z ≡ pos 1
unfolding sign_of
sign-up (pos zero) h = absurd (<ℤ_irrefl h)
sign-up (pos (suc n)) h = refl
sign-up (negsuc n) h = absurd h.lt

sign-down : (z : ℤ) → z <ℤ pos 0 → sign_of z ≡ negsuc 0
unfolding sign_of
sign-down (pos zero) h = absurd (<ℤ_irrefl h)
sign-down (pos (suc n)) h = let z : suc n < 0 = ltb→lt (suc n) 0 h.lt in let y : ⊥ = omega arith in absurd y
sign-down (negsuc n) h = refl

sign-null : (z : ℤ) → z ≡ pos 0 → sign_of z ≡ pos 0
unfolding sign_of
sign-null z e = rw e refl

-- what is above counts 2^32 times
over-up : (low z : ℤ) → Within low largest_limb → pos 0 <ℤ z → pos 0 <ℤ (low +ℤ pos limb_turn *ℤ z)
over-up low z w h = lt_at (low ∷ z ∷ []) (of_le (within-lo w) ⊞ nn-nat limb_turn ⊠ of_lt h)
    (search reify depth 30 fits 20000) slk

over-down : (low z : ℤ) → Within low largest_limb → z <ℤ pos 0 → (low +ℤ pos limb_turn *ℤ z) <ℤ pos 0
over-down low z w h = lt_at (low ∷ z ∷ []) (of_le (within-hi w) ⊞ nn-nat limb_turn ⊠ of_lt h)
    (search reify depth 30 fits 20000) slk

sign-over : (low z : ℤ) → Within low largest_limb → sign_of (low +ℤ pos limb_turn *ℤ z) ≡ pick (sign_of z) (sign_of low)
unfolding pick
sign-over low z w = go (sign z)
  where
    alone : (t low : ℤ) → low +ℤ t *ℤ pos 0 ≡ low
    alone t low = ring-at (t ∷ low ∷ []) (search reify depth 30) refl

    go : Sign z → sign_of (low +ℤ pos limb_turn *ℤ z) ≡ pick (sign_of z) (sign_of low)
    go (plus h) = sign-up _ (over-up low z w h) ∙ sym (ap (λ s. pick s (sign_of low)) (sign-up z h))
    go (null e) = ap (λ y. sign_of (low +ℤ pos limb_turn *ℤ y)) e ∙ ap sign_of (alone (pos limb_turn) low)
        ∙ sym (ap (λ s. pick s (sign_of low)) (sign-null z e))
    go (minus h) = sign-down _ (over-down low z w h) ∙ sym (ap (λ s. pick s (sign_of low)) (sign-down z h))

pub sign-limbs : (w : Wide) → Carried w →
    pick (pick (pick (sign_of w.d) (sign_of w.c)) (sign_of w.b)) (sign_of w.a) ≡ sign_of (value w)
sign-limbs w S = sym (sign-over w.a _ S.under-a
    ∙ ap (λ s. pick s (sign_of w.a)) (sign-over w.b _ S.under-b
    ∙ ap (λ s. pick s (sign_of w.b)) (sign-over w.c w.d S.under-c)))

-- so the highest limb that is not 0 has it
pick-some : (z rest : ℤ) → z ≢ pos 0 → pick (sign_of z) rest ≡ sign_of z
unfolding pick sign_of
pick-some (pos zero) rest n = absurd (n refl)
pick-some (pos (suc n)) rest h = refl
pick-some (negsuc n) rest h = refl

pick-none : (z rest : ℤ) → z ≡ pos 0 → pick (sign_of z) rest ≡ rest
unfolding pick sign_of
pick-none z rest e = rw e refl

module _ (w : Wide) (S : Carried w) where
  pub highest-d : w.d ≢ pos 0 → sign_of w.d ≡ sign_of (value w)
  highest-d n = rw (
    ← sign-limbs w S,
    pick-some w.d (sign_of w.c) n,
    pick-some w.d (sign_of w.b) n,
    pick-some w.d (sign_of w.a) n,
  )

  pub highest-c : w.d ≡ pos 0 → w.c ≢ pos 0 → sign_of w.c ≡ sign_of (value w)
  highest-c d n = rw (
    ← sign-limbs w S,
    pick-none w.d (sign_of w.c) d,
    pick-some w.c (sign_of w.b) n,
    pick-some w.c (sign_of w.a) n,
  )

  pub highest-b : w.d ≡ pos 0 → w.c ≡ pos 0 → w.b ≢ pos 0 → sign_of w.b ≡ sign_of (value w)
  highest-b d c n = rw (
    ← sign-limbs w S,
    pick-none w.d (sign_of w.c) d,
    pick-none w.c (sign_of w.b) c,
    pick-some w.b (sign_of w.a) n,
  )

  pub highest-a : w.d ≡ pos 0 → w.c ≡ pos 0 → w.b ≡ pos 0 → sign_of w.a ≡ sign_of (value w)
  highest-a d c b = rw (
    ← sign-limbs w S,
    pick-none w.d (sign_of w.c) d,
    pick-none w.c (sign_of w.b) c,
    pick-none w.b (sign_of w.a) b,
  )

-- the library's sign is the sign
pub signum-sign : (z : ℤ) → int_signum z ≡ sign_of z
unfolding sign_of
signum-sign (pos zero) = refl
signum-sign (pos (suc n)) = ap pos (omega arith)
signum-sign (negsuc n) = refl

pub sign_zero : (z : ℤ) → eq_z (sign_of z) (pos 0) ≡ eq_z z (pos 0)
unfolding sign_of
sign_zero (pos zero) = refl
sign_zero (pos (suc n)) = sym (tells-false (tells-eq_z (pos (suc n)) (pos 0)) (λ e. nonzero (ap nat_abs e)))
  where
    nonzero : suc n ≡ 0 → ⊥
    nonzero e = omega arith
sign_zero (negsuc n) = refl

pub sign_above : (z : ℤ) → lt_z (pos 0) (sign_of z) ≡ lt_z (pos 0) z
unfolding sign_of
sign_above (pos zero) = refl
sign_above (pos (suc n)) = sym (tells-true (tells-lt 0 (suc n)) (omega arith))
sign_above (negsuc n) = refl

pub sign_below : (z : ℤ) → lt_z (sign_of z) (pos 0) ≡ lt_z z (pos 0)
unfolding sign_of
sign_below (pos zero) = refl
sign_below (pos (suc n)) = sym (tells-false (tells-lt (suc n) 0) (omega arith))
sign_below (negsuc n) = refl
