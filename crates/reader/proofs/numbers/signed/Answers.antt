-- `reader::numbers::signed` meets its contract: numbers of limits fit. Assumes nothing.
use Rattle.std.proofs.Common.{◌≡◌, ℕ, zero, suc, ◌-◌, ◌≤◌, cond, ap, refl, subst, sym, ◌∙◌, arith, pos, negsuc, ◌-ℤ◌}
use Rattle.std.proofs.Common.{true, w32}
use borrow.Author.Tests.{lt-ltb}
use mir.Facts.{to_z-of_z, to_z_pos}
use mir.Val.{SFits, to_z}
use Rattle.reader.specs.Numbers.{value_by}
use Rattle.reader.proofs.numbers.signed.Goals as goal

minus_is : (k : ℕ) → pos 0 -ℤ pos k ≡ value_by true k
unfolding value_by
minus_is zero = refl
minus_is (suc k) =
    ap (λ b. cond b (negsuc (suc k - 1)) (pos (0 - suc k))) (lt-ltb 0 (suc k) (omega arith))
    ∙ ap negsuc (let z : suc k - 1 ≡ k = omega arith in z)

minus-fits : (k : ℕ) → k ≤ 30000 → SFits w32 (pos 0 -ℤ pos k)
unfolding value_by
minus-fits k h = subst (SFits w32) (sym (minus_is k)) (go k h)
  where
    go : (j : ℕ) → j ≤ 30000 → SFits w32 (value_by true j)
    go zero l = record { sfits = omega arith }
    go (suc j) l = record { sfits = omega arith }

value-is : (k : ℕ) → k ≤ 30000 → to_z w32 k ≡ pos k
value-is k h = to_z_pos w32 (omega arith)

pub returns-then-below : goal.returns-then-below
unfolding value_by
returns-then-below c =
    rw (value-is c.args.value c.requires, to_z-of_z (minus-fits c.args.value c.requires), c.if-below.true)
    (minus_is c.args.value)

pub returns-else-below : goal.returns-else-below
unfolding value_by
returns-else-below c = rw c.if-below.false (value-is c.args.value c.requires)
