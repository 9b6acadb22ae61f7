-- `ramp::main` is safe and ends: what `respond` says it wrote is in the slice, and the slice is never too short.
-- Assumes nothing but the contracts of std's read and write.
use native.Mathlib.Omega.{arith}
use lib.ListN.{length-take}
use Rattle.lines.proofs.Texts.{bytes_fit, short-clash}
use Rattle.ramp.proofs.main.Goals as goal

pub slice_bounds-out-end : goal.slice_bounds-out-end
slice_bounds-out-end c = bytes_fit c.respond.ensures c.in-Some.is

pub slice_bounds-write_all-end : goal.slice_bounds-write_all-end
slice_bounds-write_all-end c = let h = bytes_fit c.respond.ensures c.in-Some.is in
    omega (arith, length-take c.in-Some.length c.respond.new.out)

pub unreachable-requires : goal.unreachable-requires
unreachable-requires c = short-clash c.respond.ensures (omega arith) c.in-None.is
