-- `limbs::Wide::settled` meets its contract: no limb with what is carried to it is beyond 2^62. Assumes nothing.
use Rattle.std.proofs.Common.{◌≡◌, ap, ◌∙◌, ◌+◌, ℤ, pos, ◌+ℤ◌, FitsSigned, w64}
use lib.Signed.{quot_z, rem_z}
use Rattle.whole.proofs.Numbers.Division.{within-quot}
use Rattle.whole.proofs.Numbers.Halves.{rem-most}
use Rattle.whole.proofs.Numbers.Sizes.{fits-by, within-+}
use Rattle.whole.specs.Numbers.{Within}
use Rattle.rules.specs.Sizes.{limb_turn}
use Rattle.limbs.proofs.Laws.Sizes.{kept-limbs, kept-is, same-limbs}
use Rattle.limbs.specs.Limbs.{LimbsWithin, most_sum, second_of, third_of}
use Rattle.limbs.specs.declared.Wide.{Wide}
use Rattle.limbs.proofs.Wide.settled.Goals as goal

abbrev quotient : ℤ → ℤ
quotient z = quot_z z (pos limb_turn)

abbrev rest : ℤ → ℤ
rest z = rem_z z (pos limb_turn)

-- what is carried from each of three limbs, by what was carried to it
module _ {w : Wide} (S : LimbsWithin w most_sum) where
  carry-a : Within (quotient w.a) most_sum
  carry-a = within-quot (pos limb_turn) S.size-a

  sum-b : Within (second_of w) (most_sum + most_sum)
  sum-b = within-+ S.size-b carry-a

  carry-b : Within (quotient (second_of w)) (most_sum + most_sum)
  carry-b = within-quot (pos limb_turn) sum-b

  sum-c : Within (third_of w) (most_sum + (most_sum + most_sum))
  sum-c = within-+ S.size-c carry-b

  carry-c : Within (quotient (third_of w)) (most_sum + (most_sum + most_sum))
  carry-c = within-quot (pos limb_turn) sum-c

  sum-d : Within (w.d +ℤ quotient (third_of w)) (most_sum + (most_sum + (most_sum + most_sum)))
  sum-d = within-+ S.size-d carry-c

  left-of : (z : ℤ) → kept-limbs (rest z) ≡ rest z
  left-of z = kept-is (rem-most z) tt

  a-is : {z : ℤ} → z ≡ rest (kept-limbs w.a) → kept-limbs z ≡ rest w.a
  a-is e = rw (kept-is S.size-a tt) at (ap kept-limbs e) ∙ left-of w.a

  module _ {p : ℤ} (A : p ≡ quotient (kept-limbs w.a)) where
    first : p ≡ quotient w.a
    first = rw (kept-is S.size-a tt) at A

    second : kept-limbs (kept-limbs w.b +ℤ kept-limbs p) ≡ second_of w
    second = rw (first, kept-is S.size-b tt, kept-is carry-a tt) (kept-is sum-b tt)

    b-is : {z : ℤ} → z ≡ rest (kept-limbs (kept-limbs w.b +ℤ kept-limbs p)) → kept-limbs z ≡ rest (second_of w)
    b-is e = rw second at (ap kept-limbs e) ∙ left-of (second_of w)

    module _ {q : ℤ} (B : q ≡ quotient (kept-limbs (kept-limbs w.b +ℤ kept-limbs p))) where
      next : q ≡ quotient (second_of w)
      next = rw second at B

      fits-c : FitsSigned w64 (kept-limbs w.c +ℤ kept-limbs q)
      fits-c = rw (next, kept-is S.size-c tt, kept-is carry-b tt) (fits-by sum-c tt)

      third : kept-limbs (kept-limbs w.c +ℤ kept-limbs q) ≡ third_of w
      third = rw (next, kept-is S.size-c tt, kept-is carry-b tt) (kept-is sum-c tt)

      c-is : {z : ℤ} → z ≡ rest (kept-limbs (kept-limbs w.c +ℤ kept-limbs q)) → kept-limbs z ≡ rest (third_of w)
      c-is e = rw third at (ap kept-limbs e) ∙ left-of (third_of w)

      module _ {r : ℤ} (C : r ≡ quotient (kept-limbs (kept-limbs w.c +ℤ kept-limbs q))) where
        last : r ≡ quotient (third_of w)
        last = rw third at C

        fits-d : FitsSigned w64 (kept-limbs w.d +ℤ kept-limbs r)
        fits-d = rw (last, kept-is S.size-d tt, kept-is carry-c tt) (fits-by sum-d tt)

        d-is : kept-limbs (kept-limbs w.d +ℤ kept-limbs r) ≡ w.d +ℤ quotient (third_of w)
        d-is = rw (last, kept-is S.size-d tt, kept-is carry-c tt) (kept-is sum-d tt)

pub overflow_add-self-2 : goal.overflow_add-self-2
overflow_add-self-2 c = fits-c c.requires c.parts-a.ensures.carried c.parts-b.ensures.carried

pub overflow_add-result : goal.overflow_add-result
overflow_add-result c =
    fits-d c.requires c.parts-a.ensures.carried c.parts-b.ensures.carried c.parts-c.ensures.carried

pub returns : goal.returns
returns c =
    let p = c.parts-a.ensures.carried in
    let q = c.parts-b.ensures.carried in
    same-limbs (a-is c.requires c.parts-a.ensures.left) (b-is c.requires p c.parts-b.ensures.left)
    (c-is c.requires p q c.parts-c.ensures.left) (d-is c.requires p q c.parts-c.ensures.carried)
