-- `bundle::places::count_of` meets its contract.
use Rattle.std.proofs.Common.{rules, ap, ◌∙◌, w32, nat_abs}
use mir.Facts.{to_z-of_z}
use mir.Val.{SFits}
use Rattle.bundle.proofs.places.count_of.Goals as goal

pub returns : goal.returns
returns c =
    let fit : SFits w32 c.word_of.result = search rules in
    c.unsigned_abs.ensures.value ∙ ap nat_abs (to_z-of_z fit ∙ c.word_of.ensures)
