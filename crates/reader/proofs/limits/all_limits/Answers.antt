-- `reader::limits::all_limits` meets its contract. The invariant of its loop: the limits before `held.count` are read.
-- The measure is how many more there can be. Assumes nothing.
use Rattle.std.proofs.Common.{refl, sym, ◌∙◌, subst}
use Rattle.rules.specs.Program.Text.{ascii}
use Rattle.rules.specs.Exchange.Script.{check_sat}
use Rattle.reader.specs.Course.{EndedAt}
use Rattle.reader.proofs.Laws.Bounds.{limits-ended, limits-start}
use Rattle.reader.proofs.Laws.Course.{reached}
use Rattle.reader.proofs.limits.all_limits.Goals as goal

pub loop-counts-init : goal.loop-counts-init
loop-counts-init c = (refl, limits-start c.requires)

pub returns : goal.returns
unfolding check_sat ascii
returns c =
    let r = subst (EndedAt _ _ _ _) (sym c.follow.ensures)
    (limits-ended c.loop-counts.invariant.1 (sym c.is_limit.ensures ∙ c.loop-counts-test.false)) in
    reached (EndedAt _ _ _ _) c.follow.result r r.on-course
