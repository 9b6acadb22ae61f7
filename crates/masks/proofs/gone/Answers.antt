-- `masks::gone` meets its contract. The loop's invariant: no variable passed went. Assumes nothing.
use Rattle.std.proofs.Common.{◌≡◌, cond, ap, sym, ◌∙◌, arith}
use Rattle.std.proofs.Math.Option.{none, some}
use Rattle.whole.specs.Below.{lowest}
use Rattle.whole.proofs.Lists.Turns.{lowest_start, lowest-more, lowest-here}
use Rattle.masks.specs.Masks.{gone_at, or_zero}
use Rattle.masks.proofs.gone.Goals as goal

pub loop-v-init : goal.loop-v-init
loop-v-init c = lowest_start (gone_at c.args.from c.args.to)

pub returns-then-went : goal.returns-then-went
returns-then-went c = let a = c.args in let v = c.loop-v.v in
    sym (ap or_zero (lowest-here (gone_at a.from a.to) a.variables v v (omega arith) c.loop-v.invariant
    (ap (λ b. cond b (some v) none) (sym c.went.ensures ∙ c.if-went.true))))

pub loop-v-preserved : goal.loop-v-preserved
loop-v-preserved c = let a = c.args in let v = c.loop-v.v in
    lowest-more (gone_at a.from a.to) v c.loop-v.invariant
    (ap (λ b. cond b (some v) none) (sym c.went.ensures ∙ c.if-went.false))

pub returns : goal.returns
returns c = let a = c.args in let z : c.loop-v.v ≡ a.variables = omega arith in
    sym (ap or_zero (ap (λ n. lowest n (gone_at a.from a.to)) (sym z) ∙ c.loop-v.invariant))
