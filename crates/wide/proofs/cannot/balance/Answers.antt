-- `wide::cannot::balance` meets its contract. Assumes nothing.
use Rattle.std.proofs.Common.{◌+◌, arith}
use lib.Dec.{lit≤}
use Rattle.limbs.proofs.Laws.Sizes.{sized-le}
use Rattle.limbs.proofs.Laws.Stands.{stands-is, stands-less}
use Rattle.wide.proofs.Laws.Reads.{stands-in}
use Rattle.wide.proofs.cannot.balance.Goals as goal

pub less-requires : goal.less-requires
less-requires c =
    let case = c.args.case.now in
    let v = c.args.v in
    let low = stands-is c.number_at-low.ensures (stands-in c.requires.all_formed (1 + v) (omega arith)) in
    let high = stands-is c.number_at-high.ensures
    (stands-in c.requires.all_formed (1 + (case.columns + case.rows) + v) (omega arith)) in
    (sized-le low.size (lit≤ tt), sized-le high.size (lit≤ tt))

pub returns : goal.returns
returns c =
    let case = c.args.case.now in
    let v = c.args.v in
    let low = stands-is c.number_at-low.ensures (stands-in c.requires.all_formed (1 + v) (omega arith)) in
    let high = stands-is c.number_at-high.ensures
    (stands-in c.requires.all_formed (1 + (case.columns + case.rows) + v) (omega arith)) in
    stands-is c.less.ensures (stands-less low high)
