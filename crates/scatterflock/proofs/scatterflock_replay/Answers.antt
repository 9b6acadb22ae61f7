-- `scatterflock_replay` meets its contract: the answer of the replay, in numbers. Assumes nothing.
use mathlib.Core.Path.{ap, ◌∙◌}
use Rattle.std.proofs.Common.{Ok, Err}
use Rattle.replay.proofs.Laws.Refusals.{told-as}
use Rattle.scatterflock.proofs.scatterflock_replay.Goals as goal

pub returns-in-Ok : goal.returns-in-Ok
returns-in-Ok c = let e = c.in-Ok.ensures in
    c.in_numbers.ensures ∙ told-as (Ok c.in-Ok.replayed) _ _ e.refused e.replayed

pub returns-in-Err : goal.returns-in-Err
returns-in-Err c = let e = c.in-Err.ensures in
    c.in_numbers-in-Err.ensures ∙ ap (λ n. record { number = n; word = 0; step = 0 }) c.number.ensures
    ∙ told-as (Err c.in-Err.refusal) _ _ e.refused e.replayed
