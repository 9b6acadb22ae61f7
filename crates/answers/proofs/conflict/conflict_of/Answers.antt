-- `answers::conflict::conflict_of` meets its contract: what the test says of a variable is what `crosses_at` does.
-- Assumes nothing.
use Rattle.std.proofs.Common.{◌≡◌, ℕ, Bool, cond, ap, sym, ◌∙◌, arith}
use Rattle.std.proofs.Math.Option.{none, some}
use Rattle.whole.specs.Below.{lowest}
use Rattle.whole.specs.Values.{pairs}
use Rattle.whole.proofs.Lists.Turns.{lowest_start, lowest-more, lowest-here}
use Rattle.rules.specs.Run.{crossed}
use Rattle.tableau.specs.declared.Limits.{Limits}
use Rattle.tableau.specs.Parts.{highest_of, lowest_of}
use Rattle.answers.specs.Conflict.{crosses_at, crossed_from, conflict_at}
use Rattle.answers.proofs.conflict.conflict_of.Goals as goal

pub loop-v-init : goal.loop-v-init
loop-v-init c = lowest_start (crosses_at c.args.limits)

-- what the test says of a variable
crossed-by : {a b : Bool} (limits : Limits) (v : ℕ) → a ≡ crossed pairs (lowest_of limits v) (highest_of limits v) →
    a ≡ b → crosses_at limits v ≡ cond b (some v) none
unfolding crosses_at
crossed-by limits v f e = ap (λ b. cond b (some v) none) (sym f ∙ e)

pub returns-then-is_crossed : goal.returns-then-is_crossed
unfolding conflict_at crossed_from
returns-then-is_crossed c = let a = c.args in let v = c.loop-v.v in
    sym (ap crossed_from (lowest-here (crosses_at a.limits) a.variables v v (omega arith) c.loop-v.invariant
    (crossed-by a.limits v c.is_crossed.ensures c.if-is_crossed.true)))

pub loop-v-preserved : goal.loop-v-preserved
loop-v-preserved c = let a = c.args in let v = c.loop-v.v in
    lowest-more (crosses_at a.limits) v c.loop-v.invariant
    (crossed-by a.limits v c.is_crossed.ensures c.if-is_crossed.false)

pub returns : goal.returns
unfolding conflict_at crossed_from
returns c = let a = c.args in
    let e : a.variables ≡ c.loop-v.v = omega arith in
    sym (ap crossed_from (ap (λ k. lowest k (crosses_at a.limits)) e ∙ c.loop-v.invariant))
