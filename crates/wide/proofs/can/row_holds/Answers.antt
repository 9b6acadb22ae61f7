-- `wide::can::row_holds` meets its contract: the number equals the sum where their difference is 0. Assumes nothing.
use Rattle.std.proofs.Common.{ap, ◌∙◌, ◌+◌, ℤ, pos, arith}
use lib.Dec.{lit≤}
use Rattle.whole.specs.Numbers.{eq_z}
use Rattle.rules.specs.Wide.{wide_at}
use Rattle.wide.specs.Reads.{row_in}
use Rattle.limbs.proofs.Laws.Sizes.{sized-le}
use Rattle.limbs.proofs.Laws.Stands.{stands-is, stands-less}
use Rattle.limbs.proofs.Laws.Gaps.{gap-zero}
use Rattle.wide.proofs.Laws.Reads.{formed-less, stands-in}
use Rattle.wide.proofs.can.row_holds.Goals as goal

pub row_sum-requires-clause-all_formed : goal.row_sum-requires-clause-all_formed
row_sum-requires-clause-all_formed c =
    formed-less c.requires.all_formed (c.args.first + c.args.case.now.columns) (omega arith)

pub less-gap-requires : goal.less-gap-requires
less-gap-requires c =
    let case = c.args.case.now in
    let slot = c.args.first + (case.columns + c.args.row.0) in
    let number = stands-is c.number_at-x.ensures (stands-in c.requires.all_formed slot (omega arith)) in
    (sized-le number.size (lit≤ tt), sized-le c.row_sum.ensures.size (lit≤ tt))

pub is_zero-requires : goal.is_zero-requires
is_zero-requires c =
    let case = c.args.case.now in
    let slot = c.args.first + (case.columns + c.args.row.0) in
    let number = stands-is c.number_at-x.ensures (stands-in c.requires.all_formed slot (omega arith)) in
    let gap = stands-is c.less-gap.ensures (stands-less number c.row_sum.ensures) in
    sized-le gap.size (lit≤ tt)

pub returns : goal.returns
returns c =
    let case = c.args.case.now in
    let slot = c.args.first + (case.columns + c.args.row.0) in
    let number = stands-is c.number_at-x.ensures (stands-in c.requires.all_formed slot (omega arith)) in
    let gap = stands-is c.less-gap.ensures (stands-less number c.row_sum.ensures) in
    c.is_zero.ensures ∙ ap (λ (z : ℤ). eq_z z (pos 0)) gap.number ∙ gap-zero (wide_at case.answer.now slot)
    (row_in case.entries.now case.answer.now c.args.first case.rows case.columns c.args.row.0 case.columns)
