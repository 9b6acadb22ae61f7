-- `slices::start` meets its contract: the refusal of the problem with the state of case H, or 0 with the first state of
-- the run. Assumes nothing.
use mathlib.Core.Path.{ap, refl, sym, ◌∙◌}
use Rattle.rules.specs.Problem.{problem}
use Rattle.tableau.specs.Start.{start_tableau}
use Rattle.refusals.proofs.Refused.{number-some}
use Rattle.slices.specs.declared.Slice.{Slice}
use Rattle.slices.specs.Slices.{idle}
use Rattle.slices.proofs.Laws.Stands.Start.{begun-refused, begun-fine, idle-fine, starts-as}
use Rattle.slices.proofs.start.Goals as goal

pub first-requires : goal.first-requires
first-requires c = sym c.in-Ok.ensures

pub returns-in-Ok : goal.returns-in-Ok
returns-in-Ok c = let ws = c.args.words.now in
    let e = ap (λ (s : Slice). record { refused = 0; slice = s }) c.first.ensures
    ∙ begun-fine ws 0 c.in-Ok.ensures refl (start_tableau (problem ws)) refl in
    record { exact = e; meaning = starts-as ws _ e }

pub first-requires-in-Err : goal.first-requires-in-Err
first-requires-in-Err c = idle-fine

pub returns-in-Err : goal.returns-in-Err
returns-in-Err c = let ws = c.args.words.now in let k = c.number.ensures in
    let e = ap (λ (s : Slice). record { refused = c.number.result; slice = s }) c.first-in-Err.ensures
    ∙ begun-refused ws c.number.result (k ∙ c.in-Err.ensures) (λ z. number-some c.in-Err.refusal (sym k ∙ z))
    (start_tableau (problem idle)) refl in
    record { exact = e; meaning = starts-as ws _ e }
