-- `wide::cannot::columns_cancel` meets its contract. Assumes nothing.
use Rattle.std.proofs.Common.{◌≡◌, ap, sym, ◌∙◌, ℕ, ℤ, pos, arith}
use lib.Dec.{lit≤}
use Rattle.whole.specs.Numbers.{eq_z}
use Rattle.whole.proofs.Lists.Below.{all_start}
use Rattle.limbs.proofs.Laws.Sizes.{sized-le}
use Rattle.rules.proofs.Evidence.Joined.{tests-more}
use Rattle.wide.specs.Reads.{columns_vanish}
use Rattle.wide.proofs.cannot.columns_cancel.Goals as goal
use Rattle.wide.proofs.cannot.columns_cancel.Goals.{After-loop-j}

pub loop-j-init : goal.loop-j-init
unfolding columns_vanish
loop-j-init c = (omega arith, sym (all_start _))

pub is_zero-fine-requires : goal.is_zero-fine-requires
is_zero-fine-requires c = sized-le c.column_sum-sum.ensures.size (lit≤ tt)

pub loop-j-preserved : goal.loop-j-preserved
unfolding columns_vanish
loop-j-preserved c = (
  omega arith,
  tests-more c.loop-j.j _ c.loop-j.invariant.1
      (c.is_zero-fine.ensures ∙ ap (λ (z : ℤ). eq_z z (pos 0)) c.column_sum-sum.ensures.number),
)

all : (c : After-loop-j) → c.loop-j.j ≡ c.args.case.now.columns
all c = omega arith

pub returns : goal.returns
returns c = let case = c.args.case.now in
    c.loop-j.invariant.1
    ∙ ap (λ (k : ℕ). columns_vanish case.entries.now case.answer.now case.rows case.columns k) (all c)
