-- `wide::can::rows_hold` meets its contract. Assumes nothing.
use Rattle.std.proofs.Common.{◌≡◌, ap, sym, ◌∙◌, ℕ, arith}
use Rattle.whole.proofs.Lists.Below.{all_start}
use Rattle.rules.proofs.Evidence.Joined.{tests-more}
use Rattle.wide.specs.Reads.{rows_solved}
use Rattle.wide.proofs.can.rows_hold.Goals as goal
use Rattle.wide.proofs.can.rows_hold.Goals.{After-loop-i}

pub loop-i-init : goal.loop-i-init
unfolding rows_solved
loop-i-init c = (omega arith, sym (all_start _))

pub loop-i-preserved : goal.loop-i-preserved
unfolding rows_solved
loop-i-preserved c = (omega arith, tests-more c.loop-i.i _ c.loop-i.invariant.1 c.row_holds-fine.ensures)

all : (c : After-loop-i) → c.loop-i.i ≡ c.args.case.now.rows
all c = omega arith

pub returns : goal.returns
returns c = let case = c.args.case.now in
    c.loop-i.invariant.1
    ∙ ap (λ (k : ℕ). rows_solved case.entries.now case.answer.now c.args.first case.rows case.columns k) (all c)
