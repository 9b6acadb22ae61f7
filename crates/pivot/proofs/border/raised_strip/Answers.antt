-- `pivot::border::raised_strip` meets its contract. The invariant: the numbers passed are the definition's, the others
-- 0. Assumes nothing.
use Rattle.std.proofs.Common.{rules, arith, refl, ◌≡◌, ◌<◌, get_or, pos, FitsSigned, w32, to_z-of_z}
use Rattle.whole.proofs.Lists.Prefix.{filled-start, filled_more}
use Rattle.rules.specs.Sizes.{most_rows}
use Rattle.pivot.specs.Border.{raised_at}
use Rattle.pivot.proofs.border.raised_strip.Goals as goal

pub loop-i-init : goal.loop-i-init
loop-i-init c = (refl, filled-start most_rows (pos 0) _)

pub loop-i-preserved : goal.loop-i-preserved
unfolding raised_at
loop-i-preserved c =
    let a = c.args in
    let own : FitsSigned w32 (get_or a.entries.now c.place_of.result (pos 0)) = search rules in
    let raised : FitsSigned w32 c.raised.result = search rules in
    let right : c.raised.result ≡ raised_at a.entries.now a.strip a.at a.extra c.loop-i.i =
    rw (← c.place_of.ensures) (simp (to_z-of_z own, to_z-of_z c.ranges.extra) at c.raised.ensures) in
    let room : c.loop-i.i < most_rows = let h = c.requires.few in omega arith in (
      c.loop-i.invariant.0,
      simp (to_z-of_z c.ranges.extra, to_z-of_z raised)
          (filled_more most_rows (pos 0) (raised_at a.entries.now a.strip a.at a.extra) c.loop-i.i room
          (simp (to_z-of_z c.ranges.extra) at c.loop-i.invariant.1) right),
    )
