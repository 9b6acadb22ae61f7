-- `pivot::border::border_of` meets its contract: the row and the column lie in the array and bear the common number.
-- Assumes nothing.
use mathlib.Core.Path.{◌≡◌, ap, sym, subst, ◌∙◌}
use mathlib.Core.List.{List}
use lib.IntN.{ℤ, pos, neg_ℤ, ◌-ℤ◌, +ℤ_idl}
use mir.Facts.{to_z-of_z}
use mir.Syntax.{w32}
use mir.Val.{SFits, to_z, of_z}
use Rattle.whole.proofs.Numbers.Sizes.{within-neg, fits-by}
use Rattle.pivot.specs.declared.asked.Asked.{Asked}
use Rattle.layout.specs.declared.Strip.{Strip}
use Rattle.pivot.specs.Asked.{Able}
use Rattle.pivot.specs.Border.{Bears}
use Rattle.pivot.proofs.Laws.Trial.Border.{besides-bear, aboves-bear}
use Rattle.pivot.proofs.border.border_of.Goals as goal

-- the common number, and the number that is taken off
module _ {l : List ℤ} {a : Asked} (h : Able l a) where
  fit-common : SFits w32 a.common
  fit-common = fits-by h.common-within tt

  negated : to_z w32 (of_z w32 (pos 0 -ℤ to_z w32 (of_z w32 a.common))) ≡ neg_ℤ a.common
  negated = ap (λ z. to_z w32 (of_z w32 (pos 0 -ℤ z))) (to_z-of_z fit-common)
      ∙ ap (λ z. to_z w32 (of_z w32 z)) (+ℤ_idl (neg_ℤ a.common))
      ∙ to_z-of_z {w = w32} (fits-by (within-neg h.common-within) tt)

pub raised_strip-requires : goal.raised_strip-requires
raised_strip-requires c = let a = c.args.turn.asked in
    subst (λ (w : Strip). Bears c.args.turn.entries.now w a.spot.row.0 (to_z w32 (of_z w32 a.common)))
    (sym c.column_strip-down.ensures)
    (simp (to_z-of_z (fit-common c.args.turn.able)) (besides-bear c.args.turn.able c.requires))

pub raised_strip-requires-2 : goal.raised_strip-requires-2
raised_strip-requires-2 c = let a = c.args.turn.asked in
    rw (negated c.args.turn.able)
    (subst (λ (w : Strip). Bears c.args.turn.entries.now w a.spot.column.0 (neg_ℤ a.common))
    (sym c.row_strip-across.ensures) (aboves-bear c.args.turn.able c.requires))
