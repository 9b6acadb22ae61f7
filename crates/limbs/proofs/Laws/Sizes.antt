-- How large limbs are.
--   sized-le, sized-zero, sized-plus, sized-less, sized-times      limb by limb
--   same-limbs                                   numbers with the same limbs
--   kept-is, sum-kept, difference-kept, product-kept      what 64 bits hold of a limb that is computed
--   settled-of                                   after carries the three lower limbs are below 2^32
use mathlib.Core.Path.{◌≡◌, ap, ◌∙◌}
use Prim.Native.Nat.{ℕ, ◌^◌, ◌*◌, ◌+◌, ◌≤◌}
use native.Mathlib.Omega.{arith}
use lib.Dec.{T, ltb}
use lib.IntN.{ℤ, ◌+ℤ◌, ◌-ℤ◌, ◌*ℤ◌}
use mir.Facts.{to_z-of_z}
use mir.Syntax.{w32, w64}
use mir.Val.{SFits, hbits, of_z, to_z}
use Rattle.whole.proofs.Numbers.Halves.{rem-most}
use Rattle.whole.proofs.Numbers.Sizes.{fits-by, within-*, within-+, within--, within-le}
use Rattle.whole.specs.Numbers.{Within}
use Rattle.rules.specs.Sizes.{largest_limit}
use Rattle.limbs.specs.Limbs.{Carried, LimbsWithin, less_of, plus_of, second_of, settled_of, third_of, scaled_of}
use Rattle.limbs.specs.Limbs.{most_factor, most_sum, zero_wide}
use Rattle.limbs.specs.declared.Wide.{Wide}

pub same-limbs : {v w : Wide} → v.a ≡ w.a → v.b ≡ w.b → v.c ≡ w.c → v.d ≡ w.d → v ≡ w
same-limbs {v} {w} e f g h =
    ap (λ (z : ℤ). let u : Wide = record { a = z; b = v.b; c = v.c; d = v.d } in u) e
    ∙ ap (λ (z : ℤ). let u : Wide = record { a = w.a; b = z; c = v.c; d = v.d } in u) f
    ∙ ap (λ (z : ℤ). let u : Wide = record { a = w.a; b = w.b; c = z; d = v.d } in u) g
    ∙ ap (λ (z : ℤ). let u : Wide = record { a = w.a; b = w.b; c = w.c; d = z } in u) h

pub sized-le : {w : Wide} {m n : ℕ} → LimbsWithin w m → m ≤ n → LimbsWithin w n
sized-le h k = record {
  size-a = within-le h.size-a k;
  size-b = within-le h.size-b k;
  size-c = within-le h.size-c k;
  size-d = within-le h.size-d k;
}

pub sized-zero : (n : ℕ) → LimbsWithin zero_wide n
sized-zero n = record {
  size-a = record { within = omega arith };
  size-b = record { within = omega arith };
  size-c = record { within = omega arith };
  size-d = record { within = omega arith };
}

pub sized-plus : {v w : Wide} {m n : ℕ} → LimbsWithin v m → LimbsWithin w n → LimbsWithin (plus_of v w) (m + n)
sized-plus h k = record {
  size-a = within-+ h.size-a k.size-a;
  size-b = within-+ h.size-b k.size-b;
  size-c = within-+ h.size-c k.size-c;
  size-d = within-+ h.size-d k.size-d;
}

pub sized-less : {v w : Wide} {m n : ℕ} → LimbsWithin v m → LimbsWithin w n → LimbsWithin (less_of v w) (m + n)
sized-less h k = record {
  size-a = within-- h.size-a k.size-a;
  size-b = within-- h.size-b k.size-b;
  size-c = within-- h.size-c k.size-c;
  size-d = within-- h.size-d k.size-d;
}

pub sized-times : {k : ℤ} {w : Wide} {m n : ℕ} → Within k m → LimbsWithin w n → LimbsWithin (scaled_of k w) (m * n)
sized-times h k = record {
  size-a = within-* h k.size-a;
  size-b = within-* h k.size-b;
  size-c = within-* h k.size-c;
  size-d = within-* h k.size-d;
}

pub settled-of : (w : Wide) → Carried (settled_of w)
settled-of w = record { under-a = rem-most w.a; under-b = rem-most (second_of w); under-c = rem-most (third_of w) }

-- ---- what 64 bits hold

abbrev pub kept-limbs : ℤ → ℤ
kept-limbs z = to_z w64 (of_z w64 z)

pub kept-is : {z : ℤ} {n : ℕ} → Within z n → T (ltb n (2 ^ hbits w64)) → kept-limbs z ≡ z
kept-is {z} h t = to_z-of_z {w = w64} {z = z} (fits-by h t)

pub sum-kept : {x y z : ℤ} → Within x most_sum → Within y most_sum → z ≡ kept-limbs (kept-limbs x +ℤ kept-limbs y) → z
    ≡ x +ℤ y
sum-kept h k e = rw (kept-is h tt, kept-is k tt, kept-is (within-+ h k) tt) at e

pub difference-kept : {x y z : ℤ} → Within x most_sum → Within y most_sum → z
    ≡ kept-limbs (kept-limbs x -ℤ kept-limbs y) → z ≡ x -ℤ y
difference-kept h k e = rw (kept-is h tt, kept-is k tt, kept-is (within-- h k) tt) at e

pub product-kept : {k x : ℤ} → Within k largest_limit → Within x most_factor →
    kept-limbs (kept-limbs (to_z w32 (of_z w32 k)) *ℤ kept-limbs x) ≡ k *ℤ x
product-kept {k} h j =
    let f : SFits w32 k = fits-by h tt in
    simp (to_z-of_z f, kept-is h tt, kept-is j tt) (kept-is (within-* h j) tt)
