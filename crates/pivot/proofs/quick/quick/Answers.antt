-- `pivot::quick::quick` meets its contract: the first divisor that is tried is a multiple of the divisor and divides
-- the new common number, so what trials settle on is the definition's. Assumes nothing.
use Rattle.std.proofs.Common.{rules, arith, ap, ap₂, sym, subst, ◌∙◌, ◌≡◌, ◌≢◌, Bool, true, leb, List, ℕ, ◌+◌, ◌*◌, ◌≤◌}
use Rattle.std.proofs.Common.{ℤ, pos, nat_abs, FitsSigned, w32, w64, to_z, of_z, to_z-of_z}
use native.Mathlib.Nat.{le_of_dvd, le_trans}
use lib.Dec.{leb→le}
use Rattle.whole.specs.Numbers.{Within}
use Rattle.whole.proofs.Bools.{true→T}
use Rattle.whole.proofs.Numbers.Sizes.{fits-by, size-pos}
use Rattle.rules.specs.Sizes.{largest_number}
use Rattle.divisor.specs.Cells.{largest_size}
use Rattle.divisor.specs.Signs.{signed_by}
use Rattle.divisor.proofs.Laws.Signs.{signed-nonzero, size-signed}
use Rattle.pivot.specs.declared.asked.Asked.{Asked}
use Rattle.pivot.specs.declared.border.Border.{Border}
use Rattle.pivot.specs.declared.settle.Settled.{Settled}
use Rattle.pivot.specs.Asked.{Able, pivot_for, product_for}
use Rattle.pivot.specs.Border.{border_for, border_divisor, Bordered}
use Rattle.pivot.specs.Trials.{SettledAs}
use Rattle.pivot.proofs.Laws.Trial.Border.{bordered}
use Rattle.pivot.proofs.Laws.Wide.Reductions.{within-size, nonzero-product}
use Rattle.pivot.proofs.Laws.Trial.Settling.{first-multiple, first-divides, first_above, settled-ends}
use Rattle.pivot.proofs.quick.quick.Goals as goal

module _ (l : List ℤ) (a : Asked) (able : Able l a) where
  fit-common : FitsSigned w32 a.common
  fit-common = fits-by able.common-within tt

  -- what is tried first
  abbrev first : ℕ
  first = nat_abs a.common * border_divisor (border_for l a) a.common

  first-most : first ≤ largest_size
  first-most = le_trans (le_of_dvd (size-pos (product_for l a) (nonzero-product able)) (first-divides able))
      (within-size able).within

  -- .. as the code finds it
  first-is : {size whole part : ℕ} {b : Border} → b ≡ border_for l a →
      size ≡ nat_abs (to_z w32 (of_z w32 a.common)) → whole ≡ size →
      part ≡ border_divisor b (to_z w32 (of_z w32 a.common)) → whole * part ≡ first
  first-is e f g h = ap₂ (λ x y. x * y) (g ∙ (simp (to_z-of_z fit-common) at f))
      ((simp (to_z-of_z fit-common) at h) ∙ ap (λ (b : Border). border_divisor b a.common) e)

  -- the pivot and the common number are near, so the border's numbers are in range
  fine : {p : ℤ} {near : Bool} {b : Border} → FitsSigned w32 p → p ≡ pivot_for l a →
      near ≡ leb (nat_abs (to_z w32 (of_z w32 p)) + nat_abs (to_z w32 (of_z w32 a.common))) largest_number →
      near ≡ true → b ≡ border_for l a → Bordered b
  fine {p} {near} fit e f t g =
      let h = simp (to_z-of_z fit, to_z-of_z fit-common) at (sym f ∙ t) in
      subst (λ (b : Border). Bordered b) (sym g) (bordered able
      (subst (λ (z : ℤ). nat_abs z + nat_abs a.common ≤ largest_number) e
      (leb→le (nat_abs p + nat_abs a.common) largest_number (true→T h))))

  -- the first divisor is in range, and has a sign
  module _ {size : ℕ} (size-is : size ≡ first) (few : size ≤ largest_number) {new z : ℤ} (fit-new : FitsSigned w64 new)
      (new-is : new ≡ product_for l a) (z-is : z ≡ signed_by (to_z w64 (of_z w64 new)) size) where
    from-is : z ≡ signed_by (product_for l a) first
    from-is = (simp (to_z-of_z fit-new) at z-is) ∙ ap₂ signed_by new-is size-is

    first_small : first ≤ largest_number
    first_small = rw (← size-is) few

    from-within : Within z largest_number
    from-within = record { within = rw (from-is, size-signed) first_small }

    from-half : FitsSigned w32 z
    from-half = fits-by from-within tt

    from-nonzero : z ≢ pos 0
    from-nonzero e = signed-nonzero (product_for l a) first (first_above able) (sym from-is ∙ e)

pub overflow_mul-first : goal.overflow_mul-first
overflow_mul-first c =
    let able = c.args.turn.able in
    omega (
      arith,
      first-is _ _ able c.border_of-border.ensures c.unsigned_abs.ensures.value c.from.ensures
          c.border_divisor.ensures,
      first-most _ _ able,
    )

pub overflow_cast-from : goal.overflow_cast-from
overflow_cast-from c =
    let able = c.args.turn.able in
    let from : FitsSigned w64 c.signed-from.result = search rules in
    let first = first-is _ _ able c.border_of-border.ensures c.unsigned_abs.ensures.value c.from.ensures
    c.border_divisor.ensures in
    simp (to_z-of_z from) (from-half _ _ able first c.if-first.false (search rules) c.product.ensures
    c.signed-from.ensures)

pub invariant_of-settle : goal.invariant_of-settle
invariant_of-settle c = record {
  within = c.args.turn.able.all-within;
  bordered = fine _ _ c.args.turn.able (search rules) c.pivot.ensures c.are_near.ensures c.if-not-are_near.false
      c.border_of-border.ensures;
}

pub settle-requires : goal.settle-requires
settle-requires c =
    let able = c.args.turn.able in
    let from : FitsSigned w64 c.signed-from.result = search rules in
    let product : FitsSigned w64 c.product.result = search rules in
    let first = first-is _ _ able c.border_of-border.ensures c.unsigned_abs.ensures.value c.from.ensures
    c.border_divisor.ensures in
    let half = from-half _ _ able first c.if-first.false product c.product.ensures c.signed-from.ensures in
    simp (to_z-of_z from, to_z-of_z half) (
      from-nonzero _ _ able first c.if-first.false product c.product.ensures c.signed-from.ensures,
      from-within _ _ able first c.if-first.false product c.product.ensures c.signed-from.ensures,
    )

pub returns : goal.returns
returns c =
    let able = c.args.turn.able in
    let from : FitsSigned w64 c.signed-from.result = search rules in
    let product : FitsSigned w64 c.product.result = search rules in
    let first = first-is _ _ able c.border_of-border.ensures c.unsigned_abs.ensures.value c.from.ensures
    c.border_divisor.ensures in
    let half = from-half _ _ able first c.if-first.false product c.product.ensures c.signed-from.ensures in
    settled-ends able _ (first_above able)
    (first_small _ _ able first c.if-first.false product c.product.ensures c.signed-from.ensures)
    (first-divides able) (first-multiple able) c.settle.result c.args.out.now c.settle.new.out c.told-out
    (right c.args.turn.entries.now c.args.out.now c.settle.result c.settle.new.out c.border_of-border.ensures
    (from-is _ _ able first c.if-first.false product c.product.ensures c.signed-from.ensures)
    (simp (to_z-of_z from, to_z-of_z half) at c.settle.ensures))
  where
    right : (l k : List ℤ) (w : Settled) (out : List ℤ) {b b' : Border} {y y' : ℤ} →
        b ≡ b' → y ≡ y' → SettledAs l b y k w out → SettledAs l b' y' k w out
    right l k w out {b} {b'} {y} {y'} e f h =
        subst (λ (b : Border). SettledAs l b y' k w out) e (subst (λ (y : ℤ). SettledAs l b y k w out) f h)
