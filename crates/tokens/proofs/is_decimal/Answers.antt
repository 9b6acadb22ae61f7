-- `tokens::is_decimal` meets its contract. The loop's invariant: the bytes left are the digits of `rest` exactly where
-- the token's are those of `value`. Assumes nothing.
use Rattle.std.proofs.Common.{◌≡◌, sym, ◌∙◌, ap, ap₂, arith, eqb, Bool, true, false, ◌&&◌, ◌+◌, ◌%◌, ◌/◌}
use borrow.Author.Tests.{eq-eqb, ne_eqb}
use Rattle.rules.specs.Program.Text.{digits}
use Rattle.rules.specs.Exchange.Reader.{same_bytes}
use Rattle.tokens.proofs.Laws.Decimals.{decimal-more, decimal-none, decimal-one, front, last-of, nothing-same}
use Rattle.tokens.proofs.is_decimal.Goals as goal

pub returns-then-is_empty : goal.returns-then-is_empty
returns-then-is_empty c =
    let w = c.loop-left.left.now in
    let k = c.loop-left.rest in
    ap₂ (λ b d. b && eqb (48 + k) d) (sym c.if-is_empty.true ∙ c.is_empty.ensures) c.from.ensures
    ∙ sym
    (c.loop-left.invariant ∙ decimal-one k w (omega arith) c.if-rest-lt10.true
    ∙ ap (λ b. b && eqb (48 + k) (last-of w)) (nothing-same (front w)))

pub returns-else-is_empty : goal.returns-else-is_empty
returns-else-is_empty c =
    let w = c.loop-left.left.now in
    let k = c.loop-left.rest in
    c.if-is_empty.false
    ∙ sym
    (c.loop-left.invariant ∙ decimal-one k w (omega arith) c.if-rest-lt10.true
    ∙ ap (λ b. b && eqb (48 + k) (last-of w))
    (nothing-same (front w) ∙ sym c.is_empty.ensures ∙ c.if-is_empty.false))

all-of : (a b c : Bool) → b ≡ true → c ≡ (a && b) → c ≡ a
all-of true b c e q = q ∙ e
all-of false b c e q = q

none-of : (a b c : Bool) → b ≡ false → c ≡ (a && b) → b ≡ c
none-of true b c e q = sym q
none-of false b c e q = e ∙ sym q

pub returns-then-rest-from : goal.returns-then-rest-from
returns-then-rest-from c =
    let w = c.loop-left.left.now in
    let k = c.loop-left.rest in
    sym (ne_eqb _ _ c.if-rest-from.true)
    ∙ none-of _ _ _ (ne_eqb _ _ c.if-rest-from.true)
    (c.loop-left.invariant ∙ decimal-more k w c.in-len1-up.len_at_least c.if-rest-lt10.false
    ∙ ap (λ b. same_bytes (digits (k / 10)) (front w) && eqb (48 + k % 10) b) (sym c.from-in-len1-up.ensures))

pub loop-left-preserved : goal.loop-left-preserved
loop-left-preserved c =
    let w = c.loop-left.left.now in
    let k = c.loop-left.rest in
    all-of _ _ _ (eq-eqb _ _ (c.if-rest-from.false ∙ c.from-in-len1-up.ensures))
    (c.loop-left.invariant ∙ decimal-more k w c.in-len1-up.len_at_least c.if-rest-lt10.false)

pub returns : goal.returns
returns c =
    sym
    (c.loop-left.invariant ∙ decimal-none c.loop-left.rest c.loop-left.left.now c.in_default.len_below)
