-- The range test over all cells.
--   small-common, small-cell, small_all   what the test of all says
--   small-more, small-same, ..             one cell more; equal cells
--   range-half                            of the numbers of half the width only the least is beyond the range
use borrow.Author.Tests.{eq-eqb, ne_eqb}
use mathlib.Core.Bool.{Bool, false, true, ◌&&◌, not}
use mathlib.Core.List.{List, [], ◌∷◌}
use Rattle.std.specs.List.{list_all}
use mathlib.Core.Logic.{◌≢◌}
use mathlib.Core.Path.{refl, ap, sym, ◌≡◌, ◌∙◌, subst}
use Prim.Native.Nat.{ℕ, zero, suc, ◌+◌, ◌≤◌, ◌<◌}
use native.Mathlib.Decide.{ℕ_discrete}
use native.Mathlib.Numerals.{add-one}
use native.Mathlib.Omega.{arith}
use lib.IntN.{ℤ, pos, negsuc, nat_abs}
use lib.ListN.{get_or, length}
use mir.Syntax.{w32}
use mir.Facts.{to_z-of_z}
use mir.Val.{SFits, to_z, of_z}
use lib.Dec.{eqb}
use Rattle.whole.specs.Below.{all_below}
use Rattle.whole.proofs.Lists.Below.{all-not, all_same, all_start}
use Rattle.whole.proofs.Bools.{and-of}
use Rattle.whole.proofs.Numbers.Halves.{not_least}
use Rattle.whole.proofs.Tells.{tells-within, tells-true, tells-false}
use Rattle.rules.specs.Sizes.{largest_number}
use Rattle.pivot.specs.Pivot.{in_range, small_below, all_small}

module _ (e : ℕ) (l : List ℤ) (common : ℤ) where
  pub small-common : in_range common ≡ false → small_below e l common ≡ false
  unfolding small_below
  small-common h = rw h

  pub small-cells : all_small e l ≡ false → small_below e l common ≡ false
  unfolding small_below
  small-cells h = rw h (go (in_range common))
    where
      go : (b : Bool) → b && false ≡ false
      go true = refl
      go false = refl

  pub small-cell : (k : ℕ) → k < e → in_range (get_or l k (pos 0)) ≡ false → small_below e l common ≡ false
  small-cell k h q = small-cells (all-not e k (λ i. in_range (get_or l i (pos 0))) h q)

  pub small_all : in_range common ≡ true → all_small e l ≡ true → small_below e l common ≡ true
  unfolding small_below
  small_all h q = and-of h q

pub small-more : (k : ℕ) (l : List ℤ) → all_small (k + 1) l ≡ all_small k l && in_range (get_or l k (pos 0))
unfolding all_below
small-more k l = rw add-one (go (all_small k l) (in_range (get_or l k (pos 0))))
  where
    go : (a b : Bool) → elim a [ true ↦ b | false ↦ false ] ≡ a && b
    go true b = refl
    go false b = refl

-- a list tested from its front
all-front : (k : ℕ) (f : ℕ → Bool) → all_below (suc k) f ≡ f 0 && all_below k (λ i. f (suc i))
unfolding all_below
all-front zero f = sym (and-true-right (f 0))
  where
    and-true-right : (b : Bool) → b && true ≡ b
    and-true-right true = refl
    and-true-right false = refl
all-front (suc k) f = ap (λ b. elim b [ true ↦ f (suc k) | false ↦ false ]) (all-front k f)
    ∙ go (f 0) (all_below k (λ i. f (suc i)))
  where
    go : (a b : Bool) →
        elim (a && b) [ true ↦ f (suc k) | false ↦ false ] ≡ a && elim b [ true ↦ f (suc k) | false ↦ false ]
    go true b = refl
    go false b = refl

pub small-list : (l : List ℤ) → list_all in_range l ≡ all_small (length l) l
small-list [] = sym (all_start (λ i. in_range (get_or [] i (pos 0))))
small-list (z ∷ l) = ap (λ b. in_range z && b) (small-list l)
    ∙ sym (all-front (length l) (λ i. in_range (get_or (z ∷ l) i (pos 0))))

pub small-same : (k : ℕ) (l r : List ℤ) → ((i : ℕ) → i < k → get_or l i (pos 0) ≡ get_or r i (pos 0)) →
    all_small k l ≡ all_small k r
small-same k l r h = all_same k (λ i. in_range (get_or l i (pos 0))) (λ i. in_range (get_or r i (pos 0)))
    (λ i b. ap in_range (h i b))

pub small_below-same : (k : ℕ) (l r : List ℤ) (common : ℤ) →
    ((i : ℕ) → i < k → get_or l i (pos 0) ≡ get_or r i (pos 0)) → small_below k l common ≡ small_below k r common
unfolding small_below
small_below-same k l r common h = ap (λ b. in_range common && b) (small-same k l r h)

range-least : (z : ℤ) → z ≡ negsuc 2147483647 → in_range z ≡ false
range-least z e = tells-false (tells-within largest_number z)
    (λ w. let h = subst (λ y. nat_abs y ≤ largest_number) e w.within in let y : ⊥ = omega arith in y)

range-other : (z : ℤ) → SFits w32 z → z ≢ negsuc 2147483647 → in_range z ≡ true
range-other z f o = tells-true (tells-within largest_number z) (not_least z f o)

pub range-half : (z : ℤ) → SFits w32 z → not (eqb (of_z w32 z) 2147483648) ≡ in_range z
range-half z f = go (ℕ_discrete (of_z w32 z) 2147483648)
  where
    go : Dec (of_z w32 z ≡ 2147483648) → not (eqb (of_z w32 z) 2147483648) ≡ in_range z
    go (yes e) = ap not (eq-eqb (of_z w32 z) 2147483648 e)
        ∙ sym (range-least z (sym (to_z-of_z f) ∙ ap (to_z w32) e))
    go (no n) = ap not (ne_eqb (of_z w32 z) 2147483648 n) ∙ sym (range-other z f (λ q. n (ap (of_z w32) q)))
