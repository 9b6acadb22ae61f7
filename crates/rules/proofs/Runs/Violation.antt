-- What is shown of a state is its leaving variable, in plain words, and no other.
--   violation-shown       `Shows` of specs/Facts/Runs/Violation, of every state
--   violation-exactly     where no limits cross: whoever leaves is the one that is named
--   violation-none        .. and where every basic variable is within its limits nothing is shown
--   first-shown           of words that are a problem: at its start
--   first-refused         of words that are refused: their number, and nothing else
--   session-shown         of a session: where its next check would start, by the limits that are on
use mathlib.Core.Bool.{false, true}
use mathlib.Core.List.{List}
use mathlib.Core.Option.{Option, none, some}
use mathlib.Core.Path.{◌≡◌, ap, refl, subst, sym}
use Prim.Native.Nat.{ℕ, suc, ◌<◌}
use lib.IntN.{pos, ℤ}
use lib.Signed.{◌<ℤ◌}
use Rattle.whole.proofs.Bools.{zero_one}
use Rattle.whole.proofs.Values.Beside.{pairs-laws}
use Rattle.whole.specs.Values.{pairs}
use Rattle.rules.proofs.Step.Leaving.{left, none-leaves}
use Rattle.rules.proofs.Step.Rule.{leaving-exactly, none-leaving-exactly, shortfall-positive}
use Rattle.rules.specs.Facts.Rule.{Inside, Left}
use Rattle.rules.specs.Facts.Runs.Violation.{Names, Shows, none-outside, one_outside}
use Rattle.rules.specs.Facts.State.{Apart}
use Rattle.rules.specs.Problem.{Problem, inner, problem, vars}
use Rattle.rules.specs.Refusal.{problem_refusal}
use Rattle.rules.specs.Runs.Session.{Session, live_of}
use Rattle.rules.specs.Runs.Violation.{session_violation}
use Rattle.rules.specs.Runs.Violation.{first_violation, has_to_rise, nothing_shown, shown_by, start_shown, violation_of}
use Rattle.rules.specs.Step.{Leaving, Side, State, above, below, common, leaving, seat, start}

rise-below : (σ : Side) → σ ≡ below → has_to_rise σ ≡ true
rise-below below e = refl
rise-below above e = let z : ◌≡◌ {A = ℕ} 0 1 = cc in zero_one z

fall-above : (σ : Side) → σ ≡ above → has_to_rise σ ≡ false
fall-above above e = refl
fall-above below e = let z : ◌≡◌ {A = ℕ} 0 1 = cc in zero_one z

module _ (P : Problem (ℤ × ℤ)) (s : State (ℤ × ℤ)) where
  shown-is : (o : Option (Leaving (ℤ × ℤ))) → leaving pairs P s ≡ o → violation_of P s ≡ shown_by (common s) o
  unfolding violation_of
  shown-is o e = ap (shown_by (common s)) e

  names : (r : Leaving (ℤ × ℤ)) → Names s r (shown_by (common s) (some r))
  unfolding shown_by
  names r = record {
    not-refused = refl;
    some-violated = refl;
    variable-is = refl;
    rises-below = rise-below r.side;
    falls-above = fall-above r.side;
    over-common = refl;
    short-by = refl;
  }

  pub violation-shown : Shows P s (violation_of P s)
  unfolding shown_by
  violation-shown = go (leaving pairs P s) refl
    where
      go : (o : Option (Leaving (ℤ × ℤ))) → leaving pairs P s ≡ o → Shows P s (violation_of P s)
      go none e = none-outside (shown-is none e) (none-leaves pairs P s e)
      go (some r) e = let L : Left pairs P s r = left pairs P s r e in
          one_outside r L (shortfall-positive pairs pairs-laws P s r L)
          (subst (Names s r) (sym (shown-is (some r) e)) (names r))

  pub violation-exactly : Apart pairs P → pos 0 <ℤ common s → (r : Leaving (ℤ × ℤ)) → Left pairs P s r →
      Names s r (violation_of P s)
  violation-exactly A d r L =
      subst (Names s r) (sym (shown-is (some r) ((leaving-exactly pairs pairs-laws P s A d r).1 L))) (names r)

  pub violation-none : ((v : ℕ) → v < vars P → seat s v ≡ none → Inside pairs P s v) → violation_of P s ≡
      nothing_shown 0
  unfolding shown_by
  violation-none I = shown-is none ((none-leaving-exactly pairs P s).1 I)

module _ (ws : List ℤ) where
  by-refusal : (k : ℕ) → problem_refusal ws ≡ k → first_violation ws ≡ start_shown k ws
  unfolding first_violation
  by-refusal k e = ap (λ k. start_shown k ws) e

  pub first-shown : problem_refusal ws ≡ 0 →
      Shows (inner (problem ws)) (start pairs (inner (problem ws))) (first_violation ws)
  first-shown e = subst (Shows (inner (problem ws)) (start pairs (inner (problem ws)))) (sym (by-refusal 0 e))
      (violation-shown (inner (problem ws)) (start pairs (inner (problem ws))))

  pub first-refused : (k : ℕ) → problem_refusal ws ≡ suc k → first_violation ws ≡ nothing_shown (suc k)
  first-refused k e = by-refusal (suc k) e

pub session-shown : (A : Session (ℤ × ℤ)) → Shows (live_of A) A.state (session_violation A)
session-shown A = violation-shown (live_of A) A.state
