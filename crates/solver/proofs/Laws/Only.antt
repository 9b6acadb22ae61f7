-- Two results that a promise of this crate's public functions allows are equal: NAME-only for each.
-- The contracts themselves are compared: κs are lifetimes, x the arguments, e what lent words hold at the exit.
--   solve-only, solve-within-only    what is answered, and every word of the output
--   spend-only    what is handed back, and every word of the output
use mathlib.Core.Path.{◌≡◌, ap, sym, ◌∙◌}
use Rattle.rules.specs.Answer.{written}
use Rattle.refusals.proofs.Refused.{told-only}
use Rattle.solver.proofs.spend.spend.Reads as spend
use Rattle.solver.proofs.solve.Reads as solve
use Rattle.solver.proofs.solve_within.Reads as solve-within

pub spend-only : (κs : _) (x : _) (a b : _) (e f : _) → spend.Post κs x a e → spend.Post κs x b f →
    (a ≡ b) × (e.1.1.1.1.0.now ≡ f.1.1.1.1.0.now)
spend-only κs x a b e f h k = (h.0 ∙ sym k.0, h.1 ∙ sym k.1)

pub solve-only : (κs : _) (x : _) (a b : _) (e f : _) → solve.Post κs x a e → solve.Post κs x b f →
    (a ≡ b) × (e.1.0.now ≡ f.1.0.now)
solve-only κs x a b e f h k = let n = h.0 ∙ sym k.0 in
    (told-only a b n, h.1 ∙ ap (λ j. written j x.0.now x.1.0.now) n ∙ sym k.1)

pub solve-within-only : (κs : _) (x : _) (a b : _) (e f : _) → solve-within.Post κs x a e →
    solve-within.Post κs x b f → (a ≡ b) × (e.1.1.0.now ≡ f.1.1.0.now)
solve-within-only κs x a b e f h k = let n = h.0 ∙ sym k.0 in
    (told-only a b n, h.1 ∙ ap (λ j. written j x.1.0.now x.1.1.0.now) n ∙ sym k.1)
