-- `cannot::balance` meets its contract: the difference is within twice the largest number. Assumes nothing.
use Rattle.std.proofs.Common.{◌+◌, ◌-ℤ◌, arith, w64}
use mir.Facts.{to_z-of_z}
use mir.Val.{SFits}
use Rattle.whole.proofs.Numbers.Sizes.{within--, fits-by}
use Rattle.rules.specs.Evidence.{lower_part, upper_part}
use Rattle.cannot.proofs.balance.Goals as goal

pub overflow_sub-result : goal.overflow_sub-result
overflow_sub-result c =
    let a = c.args.case.now.answer.now in
    let v = c.args.variable.0 in
    let variables = c.args.case.now.columns + c.args.case.now.rows in
    let low = c.requires.multiplied.lower-within v (omega arith) in
    let high = c.requires.multiplied.upper-within v (omega arith) in
    let fit-low : SFits w64 (lower_part a v) = fits-by low tt in
    let fit-high : SFits w64 (upper_part variables a v) = fits-by high tt in
    simp (to_z-of_z fit-low, to_z-of_z fit-high) (fits-by (within-- low high) tt)

pub returns : goal.returns
returns c =
    let a = c.args.case.now.answer.now in
    let v = c.args.variable.0 in
    let variables = c.args.case.now.columns + c.args.case.now.rows in
    let low = c.requires.multiplied.lower-within v (omega arith) in
    let high = c.requires.multiplied.upper-within v (omega arith) in
    let fit-low : SFits w64 (lower_part a v) = fits-by low tt in
    let fit-high : SFits w64 (upper_part variables a v) = fits-by high tt in
    let fit : SFits w64 (lower_part a v -ℤ upper_part variables a v) = fits-by (within-- low high) tt in
    simp (to_z-of_z fit-low, to_z-of_z fit-high, to_z-of_z fit)
