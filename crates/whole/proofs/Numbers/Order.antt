-- The order of ℤ, where lib.Signed stops.
--   ≤ℤ-trans, ≤ℤ-<ℤ-trans, <ℤ-trans, <ℤ→≤ℤ, ≤ℤ-antisym      chains
--   cmp a b : Cmp a b, sign a : Sign a                       the three cases
--   ≤ℤ-+, <ℤ-+                                               sums
--   times-up, times_down, -strict, *ℤ-pos-pos, ..            products by sign
--   *ℤ-cancel, cancel                                        a factor taken off
--   true→lt, false→le, lt→true, le→false, le_z-no             between a test and a fact
use mathlib.Core.Path.{◌≡◌, refl, sym, ◌∙◌, ap}
use mathlib.Core.Logic.{◌≢◌, ◌⊎◌, inl, inr}
use mathlib.Core.Bool.{Bool, true, false, not}
use mathlib.Core.List.{[], ◌∷◌}
use Prim.Native.Nat.{zero, suc, ◌≤◌}
use native.Mathlib.Omega.{arith}
use lib.Dec.{T, leb→le, lt→ltb, nleb→lt}
use lib.Signed.{le_z, lt_z, ◌≤ℤ◌, ◌<ℤ◌, lt_z_yes, lt_z_no, <ℤ_irrefl, <ℤ-≤ℤ_trans}
use lib.IntN.{ℤ, pos, negsuc, neg_ℤ, ◌+ℤ◌, ◌*ℤ◌, *ℤ-zero, *ℤ_comm}
use Rattle.whole.proofs.Bools.{T→true}
use Rattle.whole.proofs.Ring.Reify.{reify}
use Rattle.whole.proofs.Ring.Nonneg.{of_le, of_lt, ◌⊞◌, ◌⊠◌, slk}
use Rattle.whole.proofs.Ring.Tools.{le-at, lt_at}

-- ---- chains

pub ≤ℤ-trans : {a b c : ℤ} → a ≤ℤ b → b ≤ℤ c → a ≤ℤ c
≤ℤ-trans {a} {b} {c} h k = le-at (a ∷ b ∷ c ∷ []) (of_le h ⊞ of_le k) (search reify depth 30) slk

pub ≤ℤ-<ℤ-trans : {a b c : ℤ} → a ≤ℤ b → b <ℤ c → a <ℤ c
≤ℤ-<ℤ-trans {a} {b} {c} h k = lt_at (a ∷ b ∷ c ∷ []) (of_le h ⊞ of_lt k) (search reify depth 30) slk

pub <ℤ→≤ℤ : {a b : ℤ} → a <ℤ b → a ≤ℤ b
<ℤ→≤ℤ {a} {b} h = le-at (a ∷ b ∷ []) (of_lt h) (search reify depth 30) slk

antisym' : (a b : ℤ) → T (le_z a b) → T (le_z b a) → a ≡ b
antisym' (pos a) (pos b) s t = ap pos (e (leb→le a b s) (leb→le b a t))
  where
    e : a ≤ b → b ≤ a → a ≡ b
    e h k = omega arith
antisym' (pos a) (negsuc b) s t = absurd s
antisym' (negsuc a) (pos b) s t = absurd t
antisym' (negsuc a) (negsuc b) s t = ap negsuc (e (leb→le b a s) (leb→le a b t))
  where
    e : b ≤ a → a ≤ b → a ≡ b
    e h k = omega arith

pub ≤ℤ-antisym : {a b : ℤ} → a ≤ℤ b → b ≤ℤ a → a ≡ b
≤ℤ-antisym {a} {b} h k = antisym' a b h.le k.le

-- ---- a test and a fact

nle : (a b : ℤ) → T (not (le_z a b)) → T (lt_z b a)
nle (pos a) (pos b) t = lt→ltb b a (nleb→lt a b t)
nle (pos a) (negsuc b) t = tt
nle (negsuc a) (pos b) t = t
nle (negsuc a) (negsuc b) t = lt→ltb a b (nleb→lt b a t)

pub le_z-no : {a b : ℤ} → T (not (le_z a b)) → b <ℤ a
le_z-no {a} {b} t = record { lt = nle a b t }

pub true→lt : {a b : ℤ} → lt_z a b ≡ true → a <ℤ b
true→lt e = lt_z_yes (rw e tt)

pub false→le : {a b : ℤ} → lt_z b a ≡ false → a ≤ℤ b
false→le e = lt_z_no (rw e tt)

pub lt→true : {a b : ℤ} → a <ℤ b → lt_z a b ≡ true
lt→true {a} {b} h = T→true (lt_z a b) h.lt

le→true : {a b : ℤ} → a ≤ℤ b → le_z a b ≡ true
le→true {a} {b} h = T→true (le_z a b) h.le

pub le→false : {a b : ℤ} → a ≤ℤ b → lt_z b a ≡ false
le→false {a} {b} h = go (lt_z b a) refl
  where
    go : (t : Bool) → lt_z b a ≡ t → t ≡ false
    go true e = absurd (<ℤ_irrefl (<ℤ-≤ℤ_trans (true→lt e) h))
    go false e = refl

-- ---- three cases

data Cmp (a b : ℤ) : Type 0 where
  low : a <ℤ b → Cmp a b
  same : a ≡ b → Cmp a b
  high : b <ℤ a → Cmp a b

cmp : (a b : ℤ) → Cmp a b
cmp a b = go (lt_z a b) (lt_z b a) refl refl
  where
    go : (c d : Bool) → lt_z a b ≡ c → lt_z b a ≡ d → Cmp a b
    go true d e f = low (true→lt e)
    go false true e f = high (true→lt f)
    go false false e f = same (≤ℤ-antisym {a = a} {b = b} (false→le f) (false→le e))

pub data Sign (a : ℤ) : Type 0 where
  plus : pos 0 <ℤ a → Sign a
  null : a ≡ pos 0 → Sign a
  minus : a <ℤ pos 0 → Sign a

pub sign : (a : ℤ) → Sign a
sign (pos zero) = null refl
sign (pos (suc n)) = plus (record { lt = lt→ltb 0 (suc n) (omega arith) })
sign (negsuc n) = minus (record { lt = tt })

-- ---- sums

pub ≤ℤ-+ : {a b c d : ℤ} → a ≤ℤ b → c ≤ℤ d → (a +ℤ c) ≤ℤ (b +ℤ d)
≤ℤ-+ {a} {b} {c} {d} h k = le-at (a ∷ b ∷ c ∷ d ∷ []) (of_le h ⊞ of_le k) (search reify depth 30) slk

pub neg-up : (a : ℤ) → pos 0 <ℤ a → neg_ℤ a <ℤ pos 0
neg-up a h = lt_at (a ∷ []) (of_lt h) (search reify depth 30) slk

pub neg-down : (a : ℤ) → a <ℤ pos 0 → pos 0 <ℤ neg_ℤ a
neg-down a h = lt_at (a ∷ []) (of_lt h) (search reify depth 30) slk

pub neg-up-back : (a : ℤ) → neg_ℤ a <ℤ pos 0 → pos 0 <ℤ a
neg-up-back a h = lt_at (a ∷ []) (of_lt h) (search reify depth 30) slk

pub neg-down-back : (a : ℤ) → pos 0 <ℤ neg_ℤ a → a <ℤ pos 0
neg-down-back a h = lt_at (a ∷ []) (of_lt h) (search reify depth 30) slk

-- ---- products by sign

pub times-up : {a x y : ℤ} → pos 0 <ℤ a → x ≤ℤ y → (a *ℤ x) ≤ℤ (a *ℤ y)
times-up {a} {x} {y} h k = le-at (a ∷ x ∷ y ∷ []) (of_lt h ⊠ of_le k ⊞ of_le k) (search reify depth 30) slk

pub times-up-strict : {a x y : ℤ} → pos 0 <ℤ a → x <ℤ y → (a *ℤ x) <ℤ (a *ℤ y)
times-up-strict {a} {x} {y} h k =
    lt_at (a ∷ x ∷ y ∷ []) (of_lt h ⊠ of_lt k ⊞ of_lt h ⊞ of_lt k) (search reify depth 30) slk

pub times_down : {a x y : ℤ} → a <ℤ pos 0 → x ≤ℤ y → (a *ℤ y) ≤ℤ (a *ℤ x)
times_down {a} {x} {y} h k = le-at (a ∷ x ∷ y ∷ []) (of_lt h ⊠ of_le k ⊞ of_le k) (search reify depth 30) slk

pub times-down-strict : {a x y : ℤ} → a <ℤ pos 0 → x <ℤ y → (a *ℤ y) <ℤ (a *ℤ x)
times-down-strict {a} {x} {y} h k =
    lt_at (a ∷ x ∷ y ∷ []) (of_lt h ⊠ of_lt k ⊞ of_lt h ⊞ of_lt k) (search reify depth 30) slk

pub *ℤ-pos-pos : {a b : ℤ} → pos 0 <ℤ a → pos 0 <ℤ b → pos 0 <ℤ (a *ℤ b)
*ℤ-pos-pos {a} {b} h k = lt_at (a ∷ b ∷ []) (of_lt h ⊠ of_lt k ⊞ of_lt h ⊞ of_lt k) (search reify depth 30) slk

-- ---- a factor taken off

abbrev pub Nonzero : ℤ → Type 0
Nonzero b = (pos 0 <ℤ b) ⊎ (b <ℤ pos 0)

pub nonzero-ne : (a : ℤ) → Nonzero a → a ≢ pos 0
nonzero-ne a (inl h) e = <ℤ_irrefl (rw e at h)
nonzero-ne a (inr h) e = <ℤ_irrefl (rw e at h)

not-less : (b x y : ℤ) → Nonzero b → b *ℤ x ≡ b *ℤ y → x <ℤ y → ⊥
not-less b x y (inl p) e h = <ℤ_irrefl (rw e at (times-up-strict p h))
not-less b x y (inr p) e h = <ℤ_irrefl (rw e at (times-down-strict p h))

-- a factor other than 0 cancels
pub cancel : (b x y : ℤ) → Nonzero b → b *ℤ x ≡ b *ℤ y → x ≡ y
cancel b x y n e = go (cmp x y)
  where
    go : Cmp x y → x ≡ y
    go (low h) = absurd (not-less b x y n e h)
    go (same q) = q
    go (high h) = absurd (not-less b y x n (sym e) h)

pub *ℤ-cancel : {a b c : ℤ} → pos 0 <ℤ c → a *ℤ c ≡ b *ℤ c → a ≡ b
*ℤ-cancel {a} {b} {c} h e = cancel c a b (inl h) (*ℤ_comm c a ∙ e ∙ *ℤ_comm b c)

pub product-sign : (a d : ℤ) → pos 0 <ℤ d → Nonzero a → Nonzero (a *ℤ d)
product-sign a d h (inl p) = inl (rw (*ℤ-zero a) at (times-up-strict p h))
product-sign a d h (inr p) = inr (rw (*ℤ-zero a) at (times-down-strict p h))

-- where b and b x have one sign, x is above 0
pub quotient-up : (b x : ℤ) → Nonzero (b *ℤ x) → (pos 0 <ℤ (b *ℤ x) → pos 0 <ℤ b) →
    ((b *ℤ x) <ℤ pos 0 → b <ℤ pos 0) → pos 0 <ℤ x
quotient-up b x n f g = go n (sign x)
  where
    go : Nonzero (b *ℤ x) → Sign x → pos 0 <ℤ x
    go n (plus h) = h
    go n (null e) = absurd (nonzero-ne (b *ℤ x) n (ap (λ z. b *ℤ z) e ∙ *ℤ-zero b))
    go (inl h) (minus m) = absurd (<ℤ_irrefl (<ℤ-≤ℤ_trans h (<ℤ→≤ℤ (rw (*ℤ-zero b) at (times-up-strict (f h) m)))))
    go (inr h) (minus m) = absurd (<ℤ_irrefl (<ℤ-≤ℤ_trans (rw (*ℤ-zero b) at (times-down-strict (g h) m)) (<ℤ→≤ℤ h)))
