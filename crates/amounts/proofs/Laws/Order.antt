-- The derived order of values, and of amounts, is that of the pairs that they stand for.
--   value-below, amount-less    `<` of the code
use Rattle.std.proofs.Common.{◌≡◌, Bool, true, false, cond, Some, refl, int_lt}
use Rattle.std.specs.declared.cmp.Ordering.TheVariants.{Less, Equal, Greater}
use Rattle.std.specs.Ordering.{is_lt, is_some_and, partial_lt, partial_ordering_then}
use Rattle.whole.specs.Values.{lexicographic, pairs}
use Rattle.amounts.specs.declared.Amount.{Amount}
use Rattle.amounts.specs.declared.Value.{Value}
use Rattle.amounts.specs.contracts.AmountPartialOrd.TheImpl as amounts
use Rattle.amounts.specs.contracts.ValuePartialOrd.TheImpl as values
use Rattle.amounts.specs.Amounts.{pair_in, pair_of}

-- by the tests of the two parts
by_parts : (less more rest over : Bool) → is_some_and is_lt
    (partial_ordering_then (Some (cond less Less (cond more Greater Equal)))
    (Some (cond rest Less (cond over Greater Equal))))
    ≡ lexicographic less more rest
by_parts true more rest over = refl
by_parts false true rest over = refl
by_parts false false true over = refl
by_parts false false false true = refl
by_parts false false false false = refl

pub value-below : (a b : Value) → partial_lt values.partial_cmp-value.it a b ≡ pairs.less (pair_in a) (pair_in b)
value-below a b = by_parts (int_lt a.plain b.plain) (int_lt b.plain a.plain) (int_lt a.small b.small)
    (int_lt b.small a.small)

pub amount-less : (a b : Amount) → partial_lt amounts.partial_cmp-value.it a b ≡ pairs.less (pair_of a) (pair_of b)
amount-less a b = by_parts (int_lt a.plain b.plain) (int_lt b.plain a.plain) (int_lt a.small b.small)
    (int_lt b.small a.small)
