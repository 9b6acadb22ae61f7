-- `traces::trace` meets its contract: what is answered, in numbers. Assumes nothing.
use mathlib.Core.Path.{ap, sym, ◌∙◌}
use Rattle.rules.specs.Runs.Trace.{trace_output}
use Rattle.traces.proofs.trace.Goals as goal

pub returns-in-Err : goal.returns-in-Err
returns-in-Err c = let a = c.args in let k = c.number.ensures in record {
  told = ap (λ n. record { refused = n; count = 0 }) k ∙ c.in-Err.ensures.told;
  output = c.in-Err.ensures.output ∙ ap (λ n. trace_output n a.words.now a.trace.now) (sym k);
}
