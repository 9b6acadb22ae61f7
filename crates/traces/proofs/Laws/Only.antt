-- Two results that a promise of this crate's public function allows are equal.
-- The contracts themselves are compared: κs are lifetimes, x the arguments, e what lent words hold at the exit.
--   trace-only    the number, how many words were written, and every word of the room
use mathlib.Core.Path.{◌≡◌, ap, sym, ◌∙◌}
use Rattle.rules.specs.Runs.Trace.{trace_output}
use Rattle.traces.specs.declared.Traced.{Traced}
use Rattle.traces.proofs.trace.Reads as trace

pub trace-only : (κs : _) (x : _) (a b : _) (e f : _) → trace.Post κs x a e → trace.Post κs x b f →
    (a ≡ b) × (e.1.0.now ≡ f.1.0.now)
trace-only κs x a b e f h k = let n : a ≡ b = h.0 ∙ sym k.0 in
    (n, h.1 ∙ ap (λ (r : Traced). trace_output r.refused x.0.now x.1.0.now) n ∙ sym k.1)
