-- How far one value is from another: `gap x y` is x less y.
--   gap-self               a value is 0 from itself
--   gap_more, gap-less     the gap is above 0 where y is less than x, and below 0 where x is less than y
--   gap_back               y, and the gap from it to x, make x
use mathlib.Core.Path.{ap, sym, ◌∙◌, ◌≡◌}
use lib.IntN.{negsuc, pos}
use Rattle.whole.proofs.Values.Laws.{nil-plus}
use Rattle.whole.specs.Values.{Laws, Values}
use Rattle.rules.specs.Step.{gap}

module _ {X : Type 0} (𝓥 : Values X) (law : Laws 𝓥) where
  open 𝓥 use {nil, plus, scale, less}

  gap-self : (x : X) → gap 𝓥 x x ≡ nil
  gap-self x =
      ap (λ z. plus z (scale (negsuc 0) x)) (sym (law.one-scale x)) ∙ sym (law.plus-scale (pos 1) (negsuc 0) x)
      ∙ law.zero-scale x

  pub gap_more : (x y : X) → less nil (gap 𝓥 x y) ≡ less y x
  gap_more x y = ap (λ z. less z (gap 𝓥 x y)) (sym (gap-self y)) ∙ law.less-plus y x (scale (negsuc 0) y)

  pub gap-less : (x y : X) → less (gap 𝓥 x y) nil ≡ less x y
  gap-less x y = ap (less (gap 𝓥 x y)) (sym (gap-self y)) ∙ law.less-plus x y (scale (negsuc 0) y)

  pub gap_back : (x y : X) → plus y (gap 𝓥 x y) ≡ x
  gap_back x y =
      ap (plus y) (law.plus_comm x (scale (negsuc 0) y)) ∙ sym (law.plus_assoc y (scale (negsuc 0) y) x)
      ∙ ap (λ z. plus z x) (gap-self y) ∙ nil-plus law x
