-- `can::smalls_hold` meets its contract: zeros are in range, and the rows hold of them. Assumes nothing.
use Rattle.std.proofs.Common.{sym, ◌∙◌}
use Rattle.rules.specs.Sizes.{largest_small}
use Rattle.parts.proofs.Laws.Halves.{zeros-hold}
use Rattle.can.proofs.smalls_hold.Goals as goal

pub returns-then-is_zero : goal.returns-then-is_zero
returns-then-is_zero c = let case = c.args.case.now in
    c.if-is_zero.true
    ∙ sym (zeros-hold case.entries.now c.args.half.now case.rows case.columns
    (sym c.is_zero.ensures ∙ c.if-is_zero.true) largest_small)
