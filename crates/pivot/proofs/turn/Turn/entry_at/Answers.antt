-- `pivot::turn::Turn::entry_at` meets its contract: the place lies in the array. Assumes nothing.
use Rattle.std.proofs.Common.{arith}
use Rattle.layout.proofs.Laws.Layout.{flat_in}
use Rattle.pivot.proofs.turn.Turn.entry_at.Goals as goal

pub offset_bounds-self-place : goal.offset_bounds-self-place
offset_bounds-self-place c =
    omega (
      arith,
      c.place.ensures,
      flat_in _ _ _ _ c.requires.0 c.requires.1 c.args.self.able.few-rows c.args.self.able.few-columns,
    )

pub bounds-self-place : goal.bounds-self-place
bounds-self-place c =
    rw c.place.ensures
    (flat_in _ _ _ _ c.requires.0 c.requires.1 c.args.self.able.few-rows c.args.self.able.few-columns)
