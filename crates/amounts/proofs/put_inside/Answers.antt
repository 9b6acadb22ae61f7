-- `amounts::put_inside` meets its contract: the tests in their order. Assumes nothing.
use Rattle.std.proofs.Common.{◌≡◌, Bool, true, false, cond, ◌&&◌, ap, refl, sym, ◌∙◌}
use Rattle.std.specs.Ordering.{partial_lt}
use Rattle.whole.specs.Values.{pairs}
use Rattle.amounts.specs.contracts.ValuePartialOrd.TheImpl as values
use Rattle.amounts.specs.declared.Given.{Given}
use Rattle.amounts.specs.declared.Value.{Value}
use Rattle.amounts.specs.Amounts.{given_lower, given_upper, pair_in, put_inside, value_of}
use Rattle.amounts.proofs.Laws.Order.{value-below}
use Rattle.amounts.proofs.put_inside.Goals as goal
use Rattle.amounts.proofs.put_inside.Goals.{else-lower-via-then-lower+else-lt, else-lower-via-else-lower}
use Rattle.amounts.proofs.put_inside.Goals.{else-upper-via-then-upper+else-lt-2, else-upper-via-else-upper}

abbrev is_less : Value → Value → Bool
is_less = partial_lt values.partial_cmp-value.it

module _ (lower upper : Given) (x : Value) where
  -- the value by the answers of the two tests
  by_tests : {a b : Bool} → (lower.on && pairs.less (pair_in x) (given_lower lower)) ≡ a →
      (upper.on && pairs.less (given_upper upper) (pair_in x)) ≡ b →
      value_of (cond a (given_lower lower) (cond b (given_upper upper) (pair_in x)))
      ≡ value_of (put_inside lower upper (pair_in x))
  unfolding put_inside
  by_tests e q = simp (e, q)

  -- .. which are asked of a limit that is on
  raised : {least : Value} {r b : Bool} → lower.on ≡ true → least ≡ value_of (given_lower lower) →
      r ≡ is_less x least → r ≡ b → (lower.on && pairs.less (pair_in x) (given_lower lower)) ≡ b
  raised o l e f = rw o (sym (value-below x (value_of (given_lower lower))) ∙ ap (is_less x) (sym l) ∙ sym e ∙ f)

  lowered : {most : Value} {r b : Bool} → upper.on ≡ true → most ≡ value_of (given_upper upper) →
      r ≡ is_less most x → r ≡ b → (upper.on && pairs.less (given_upper upper) (pair_in x)) ≡ b
  lowered o l e f = rw o (sym (value-below (value_of (given_upper upper)) x)
      ∙ ap (λ y. is_less y x) (sym l) ∙ sym e ∙ f)

-- a limit that is off raises nothing, and lowers nothing
off : {on : Bool} (rest : Bool) → on ≡ false → (on && rest) ≡ false
off rest e = rw e

pub returns-then-lt : goal.returns-then-lt
returns-then-lt c = let a = c.args in
    c.lower_value-least.ensures ∙ by_tests a.lower a.upper a.value
    (raised a.lower a.upper a.value c.if-lower.true c.lower_value-least.ensures c.lt.ensures c.if-lt.true) refl

pub returns-then-lt-2 : goal.returns-then-lt-2
returns-then-lt-2 c = let a = c.args in c.upper_value-most.ensures ∙ by_tests a.lower a.upper a.value
    (elim c.else-lower.branch [
      | else-lower-via-then-lower+else-lt w ↦
          raised a.lower a.upper a.value w.if-lower.true c.lower_value-least.ensures w.lt.ensures w.if-lt.false
      | else-lower-via-else-lower w ↦ off _ w.if-lower.false
    ])
    (lowered a.lower a.upper a.value c.if-upper.true c.upper_value-most.ensures c.lt-then-upper.ensures c.if-lt-2.true)

pub returns : goal.returns
returns c = let a = c.args in by_tests a.lower a.upper a.value
    (elim c.else-lower.branch [
      | else-lower-via-then-lower+else-lt u ↦
          raised a.lower a.upper a.value u.if-lower.true c.lower_value-least.ensures u.lt.ensures u.if-lt.false
      | else-lower-via-else-lower u ↦ off _ u.if-lower.false
    ])
    (elim c.else-upper.branch [
      | else-upper-via-then-upper+else-lt-2 w ↦
          lowered a.lower a.upper a.value w.if-upper.true c.upper_value-most.ensures w.lt-then-upper.ensures
          w.if-lt-2.false
      | else-upper-via-else-upper w ↦ off _ w.if-upper.false
    ])
