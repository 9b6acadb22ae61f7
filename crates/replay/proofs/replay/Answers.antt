-- `replay::replay` meets its contract: the refusals in their order, else the trace against the run. Assumes nothing.
use mathlib.Core.Path.{◌≡◌, sym}
use Rattle.std.proofs.lemmas.Result.{err_from_is_err_and}
use Rattle.rules.specs.Problem.{inner, problem}
use Rattle.rules.specs.Refusal.{problem_refusal}
use Rattle.refusals.proofs.Refused.{number-some}
use Rattle.solver.proofs.Laws.Refusals.{holds-start}
use Rattle.replay.proofs.Laws.Refusals.{refused-left-over, refused-none, refused-problem}
use Rattle.replay.proofs.replay.Goals as goal

pub returns-in_err-judge-clause-refused : goal.returns-in_err-judge-clause-refused
returns-in_err-judge-clause-refused c = let a = c.args in
    let p = err_from_is_err_and c.from_residual.result c.from_residual.ensures.1 in
    rw (p.1, p.2) (refused-problem a.words.now a.trace.now _ c.in_err-judge.ensures (number-some _))

-- the words are a problem

pub returns-then-trace-ne0-clause-refused : goal.returns-then-trace-ne0-clause-refused
returns-then-trace-ne0-clause-refused c = let a = c.args in
    refused-left-over a.words.now a.trace.now (sym c.in_ok-judge.ensures) c.if-trace-ne0.true

pub follow-requires : goal.follow-requires
follow-requires c = let f : problem_refusal c.args.words.now ≡ 0 = sym c.in_ok-judge.ensures in
    record { slice = _; holds = holds-start c.args.words.now c.new-first.result c.new-first.ensures f }

pub returns-clause-refused : goal.returns-clause-refused
returns-clause-refused c = let a = c.args in
    refused-none a.words.now a.trace.now (sym c.in_ok-judge.ensures) c.if-trace-ne0.false

pub returns-clause-replayed : goal.returns-clause-replayed
returns-clause-replayed c = let ws = c.args.words.now in
    c.follow.ensures (inner (problem ws))
    (holds-start ws c.new-first.result c.new-first.ensures (sym c.in_ok-judge.ensures))
