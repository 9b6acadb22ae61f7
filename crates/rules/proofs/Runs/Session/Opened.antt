-- What opening hands back: every limit off, every problem variable nonbasic at 0, every row's variable basic, over 1.
--   opened-so      `Opens` of specs/Facts/Runs/Session
use mathlib.Core.Bool.{false}
use mathlib.Core.Path.{refl, ◌∙◌, ◌≡◌}
use Prim.Native.Nat.{ℕ}
use native.Mathlib.Omega.{arith}
use Rattle.whole.proofs.Lists.Tables.{replicate-at}
use Rattle.whole.specs.Values.{Values}
use Rattle.rules.proofs.Run.Start.{at-start, common-one, seat-start}
use Rattle.rules.proofs.Tableau.Units.{ge-false, lt-true}
use Rattle.rules.specs.Facts.Runs.Session.{Opens}
use Rattle.rules.specs.Keeping.Limits.{keeping, kept}
use Rattle.rules.specs.Problem.{Problem, vars}
use Rattle.rules.specs.Runs.Session.{is_on, none_on, opened}
use Rattle.rules.specs.Step.{Side, above, below, start_entry, start_seat, start_value}

module _ {X : Type 0} (𝓥 : Values X) (P : Problem X) where
  pub opened-so : Opens 𝓥 P (opened 𝓥 P)
  unfolding opened start_seat start_value kept start_entry
  opened-so = record {
    given_is = refl;
    all-off = off;
    problem-zero = λ v h. seat-start 𝓥 (keeping none_on P) v (omega arith) ∙ rw (lt-true h) refl;
    row-basic = λ v h k. seat-start 𝓥 (keeping none_on P) v k ∙ rw (ge-false h) refl;
    over-one = common-one 𝓥 (keeping none_on P);
    entries = at-start 𝓥 (keeping none_on P);
  }
    where
      off : (σ : Side) (v : ℕ) → is_on (opened 𝓥 P) σ v ≡ false
      off below v = replicate-at (vars P) false v
      off above v = replicate-at (vars P) false v
