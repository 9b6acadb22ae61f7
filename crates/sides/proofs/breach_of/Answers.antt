-- `sides::breach_of` meets its contract: the lower limit is asked first. D times a limit and D times the value
-- are so small that their difference fits. Assumes nothing.
use Rattle.std.proofs.Common.{◌≡◌, ℤ, Bool, true, false, ◌||◌, Some, ap, refl, ◌∙◌, w32, to_z, of_z, SFits}
use Rattle.std.proofs.Math.Facts.{to_z-of_z}
use Rattle.whole.specs.Numbers.{Within}
use Rattle.whole.specs.Values.{pairs}
use Rattle.whole.proofs.Bools.{or-false, true-false}
use Rattle.rules.specs.Sizes.{largest_limit, largest_number}
use Rattle.rules.specs.Step.{gap}
use Rattle.amounts.specs.declared.Amount.{Amount}
use Rattle.amounts.specs.declared.Given.{Given}
use Rattle.amounts.specs.declared.Value.{Value}
use Rattle.amounts.specs.Amounts.{amount_of, given_lower, given_upper, pair_in, pair_of, value_of}
use Rattle.sides.specs.Sides.{Modest}
use Rattle.sides.proofs.Laws.Modest.{limit-modest, lower-near, upper-near}
use Rattle.sides.proofs.Laws.Sides.{breach-none, breach-over, breach-under, over-tested, under-tested}
use Rattle.sides.proofs.breach_of.Goals as goal

-- D times what a limit stands for, by its bits
scaled : {d : ℤ} {x : ℤ × ℤ} {l : Value} {a : Amount} → SFits w32 d → l ≡ value_of x →
    a ≡ amount_of (pairs.scale (to_z w32 (of_z w32 d)) (pair_in l)) → a ≡ amount_of (pairs.scale d x)
scaled {d} f e q = (simp (to_z-of_z f) at q) ∙ ap (λ l. amount_of (pairs.scale d (pair_in l))) e

-- .. and its size
module _ {d : ℤ} {a : Amount} (c : Within d largest_number) (g : Given) (h : Within g.plain largest_limit) where
  least-modest : a ≡ amount_of (pairs.scale d (given_lower g)) → Modest (pair_of a)
  least-modest e = rw e (limit-modest d (given_lower g) c (lower-near g h))

  most-modest : a ≡ amount_of (pairs.scale d (given_upper g)) → Modest (pair_of a)
  most-modest e = rw e (limit-modest d (given_upper g) c (upper-near g h))

pub returns-then-not-low-high : goal.returns-then-not-low-high
returns-then-not-low-high c = let a = c.args in
    let e = scaled c.ranges.common c.lower_value.ensures c.times-least.ensures in
    let f = scaled c.ranges.common c.upper_value.ensures c.times-most.ensures in
    let h = or-false _ _ c.if-not-low-high.true in
    breach-none a.common (pair_of a.value) a.limits
    (under-tested a.common a.value a.limits.lower e c.lt.ensures h.0)
    (over-tested a.common a.value a.limits.upper f c.lt-2.ensures h.1)

pub gap-requires : goal.gap-requires
gap-requires c = let e = scaled c.ranges.common c.lower_value.ensures c.times-least.ensures in
    (least-modest c.requires.within.0 c.args.limits.lower c.requires.within.1 e, c.requires.modest)

pub returns-then-low : goal.returns-then-low
returns-then-low c = let a = c.args in
    let e = scaled c.ranges.common c.lower_value.ensures c.times-least.ensures in
    ap (λ z. Some (record { rises = true; shortfall = z }))
    (c.gap.ensures ∙ ap (λ l. amount_of (gap pairs (pair_of l) (pair_of a.value))) e)
    ∙ breach-under a.common (pair_of a.value) a.limits
    (under-tested a.common a.value a.limits.lower e c.lt.ensures c.if-low.true)

pub gap-requires-else-low : goal.gap-requires-else-low
gap-requires-else-low c = let e = scaled c.ranges.common c.upper_value.ensures c.times-most.ensures in
    (c.requires.modest, most-modest c.requires.within.0 c.args.limits.upper c.requires.within.2 e)

-- the second of two tests, where one of them passes
second : (a b : Bool) → (a || b) ≡ true → a ≡ false → b ≡ true
second true b e f = true-false refl f
second false b e f = e

pub returns-else-low : goal.returns-else-low
returns-else-low c = let a = c.args in
    let e = scaled c.ranges.common c.lower_value.ensures c.times-least.ensures in
    let f = scaled c.ranges.common c.upper_value.ensures c.times-most.ensures in
    ap (λ z. Some (record { rises = false; shortfall = z }))
    (c.gap-else-low.ensures ∙ ap (λ u. amount_of (gap pairs (pair_of a.value) (pair_of u))) f)
    ∙ breach-over a.common (pair_of a.value) a.limits
    (under-tested a.common a.value a.limits.lower e c.lt.ensures c.if-low.false)
    (over-tested a.common a.value a.limits.upper f c.lt-2.ensures (second _ _ c.if-not-low-high.false c.if-low.false))
