-- Whole numbers are values, and any values are so again with the order turned round.
use mathlib.Core.Path.{◌≡◌, refl}
use mathlib.Core.Bool.{Bool, true, false}
use mathlib.Core.List.{[], ◌∷◌}
use lib.IntN.{ℤ, pos, ◌+ℤ◌, ◌*ℤ◌, +ℤ_assoc, +ℤ_comm, +ℤ_idr, zero-*ℤ}
use lib.Signed.{lt_z, ◌<ℤ◌}
use Rattle.whole.specs.Values.{Values, whole, Laws}
use Rattle.whole.proofs.Ring.Laws.{*ℤ-idl, *ℤ-distribl, *ℤ-distribr, *ℤ-assoc}
use Rattle.whole.proofs.Ring.Reify.{reify}
use Rattle.whole.proofs.Ring.Nonneg.{of_le, of_lt, slk}
use Rattle.whole.proofs.Ring.Tools.{le-at, lt_at}
use Rattle.whole.proofs.Numbers.Order.{true→lt, false→le, lt→true, le→false, ≤ℤ-trans, ≤ℤ-antisym, <ℤ→≤ℤ}
use Rattle.whole.proofs.Numbers.Order.{times-up, times-up-strict, times_down, times-down-strict}

-- values with their order turned round
abbrev pub turned : {X : Type 0} → Values X → Values X
turned 𝓥 = record { nil = 𝓥.nil; plus = 𝓥.plus; scale = 𝓥.scale; less = λ x y. 𝓥.less y x }

-- then all laws hold again
pub turned-laws : {X : Type 0} {𝓥 : Values X} → Laws 𝓥 → Laws (turned 𝓥)
turned-laws L = record {
  plus_assoc = L.plus_assoc;
  plus_comm = L.plus_comm;
  plus_nil = L.plus_nil;
  zero-scale = L.zero-scale;
  one-scale = L.one-scale;
  scale-plus = L.scale-plus;
  plus-scale = L.plus-scale;
  scale-times = L.scale-times;
  less-asym = λ x y h. L.less-asym y x h;
  le_trans = λ x y z p q. L.le_trans z y x q p;
  le_antisym = λ x y p q. L.le_antisym x y q p;
  less-plus = λ x y z. L.less-plus y x z;
  less-up = λ a x y h. L.less-up a y x h;
  less-down = λ a x y h. L.less-down a y x h;
}

-- a test that says the same as another, where each answer of the other gives its own
same_test : (a b x y : ℤ) → (x <ℤ y → a <ℤ b) → (lt_z x y ≡ false → lt_z a b ≡ false) → lt_z a b ≡ lt_z x y
same_test a b x y f g = go (lt_z x y) refl
  where
    go : (t : Bool) → lt_z x y ≡ t → lt_z a b ≡ t
    go true e = lt→true (f (true→lt e))
    go false e = g e

shift : (x y z : ℤ) → lt_z (x +ℤ z) (y +ℤ z) ≡ lt_z x y
shift x y z = same_test (x +ℤ z) (y +ℤ z) x y
    (λ h. lt_at (x ∷ y ∷ z ∷ []) (of_lt h) (search reify depth 30) slk)
    (λ e. le→false {a = y +ℤ z} {b =
    x +ℤ z} (le-at (x ∷ y ∷ z ∷ []) (of_le (false→le {a = y} {b = x} e)) (search reify depth 30) slk))

scale-up : (a x y : ℤ) → pos 0 <ℤ a → lt_z (a *ℤ x) (a *ℤ y) ≡ lt_z x y
scale-up a x y p = same_test (a *ℤ x) (a *ℤ y) x y (times-up-strict p)
    (λ e. le→false {a = a *ℤ y} {b = a *ℤ x} (times-up p (false→le {a = y} {b = x} e)))

scale-down : (a x y : ℤ) → a <ℤ pos 0 → lt_z (a *ℤ x) (a *ℤ y) ≡ lt_z y x
scale-down a x y p = same_test (a *ℤ x) (a *ℤ y) y x (times-down-strict p)
    (λ e. le→false {a = a *ℤ y} {b = a *ℤ x} (times_down p (false→le {a = x} {b = y} e)))

pub whole-laws : Laws whole
whole-laws = record {
  plus_assoc = +ℤ_assoc;
  plus_comm = +ℤ_comm;
  plus_nil = +ℤ_idr;
  zero-scale = zero-*ℤ;
  one-scale = *ℤ-idl;
  scale-plus = *ℤ-distribl;
  plus-scale = *ℤ-distribr;
  scale-times = *ℤ-assoc;
  less-asym = λ x y h. le→false {a = x} {b = y} (<ℤ→≤ℤ (true→lt {a = x} {b = y} h));
  le_trans = λ x y z p q. le→false {a = x} {b = z} (≤ℤ-trans (false→le {a = x} {b = y} p) (false→le {a = y} {b = z} q));
  le_antisym = λ x y p q. ≤ℤ-antisym (false→le {a = x} {b = y} p) (false→le {a = y} {b = x} q);
  less-plus = shift;
  less-up = scale-up;
  less-down = scale-down;
}
