-- The words of a step: the first that differs, and what the words of a step of the run are.
--   same_none, differs-some    no word differs; the first that differs
--   found                      and back
--   same-step-words            steps with the same words are equal
--   run-words                  the words of the step that the run completes: `RunStep` of specs/Facts/Runs/Replay
use mathlib.Core.Bool.{Bool, cond, false, true}
use mathlib.Core.Logic.{◌≢◌}
use mathlib.Core.Option.{Option, none, some}
use mathlib.Core.Path.{refl, subst, sym, ◌≡◌}
use Prim.Native.Nat.{ℕ}
use lib.Dec.{eqb}
use Rattle.whole.proofs.Tells.{tells-eq, tells-false, tells-true}
use Rattle.whole.specs.Values.{Values}
use Rattle.rules.proofs.Runs.Replay.Masks.{mask-exactly}
use Rattle.rules.proofs.Step.Cases.{Goes, step-goes}
use Rattle.rules.proofs.Step.Entering.{entered}
use Rattle.rules.proofs.Step.Leaving.{left}
use Rattle.rules.specs.Facts.Runs.Replay.{Differs, RunStep}
use Rattle.rules.specs.Problem.{Problem, vars}
use Rattle.rules.specs.Runs.Replay.{StepWord, TraceStep, basis_mask, entering-word, first_wrong, leaving-word}
use Rattle.rules.specs.Runs.Replay.{mask_word, step_words}
use Rattle.rules.specs.Step.{State, goes, step}

same_number : (a : ℕ) → eqb a a ≡ true
same_number a = tells-true (tells-eq a a) refl

other-number : {a b : ℕ} → a ≢ b → eqb a b ≡ false
other-number {a} {b} n = tells-false (tells-eq a b) n

equal-number : (a b : ℕ) → a ≡ b → eqb a b ≡ true
equal-number a b e = tells-true (tells-eq a b) e

pub same_none : (a : TraceStep) → first_wrong a a ≡ none
unfolding first_wrong
same_none a = rw (same_number a.out, same_number a.into, same_number a.mask) refl

pub differs-some : (w : StepWord) (a b : TraceStep) → Differs w a b → first_wrong a b ≡ some w
unfolding first_wrong
differs-some leaving-word a b n = rw (other-number n) refl
differs-some entering-word a b (p, n) = rw (equal-number a.out b.out p, other-number n) refl
differs-some mask_word a b (p, q, n) =
    rw (equal-number a.out b.out p, equal-number a.into b.into q, other-number n) refl

pub same-step-words : {x x' y y' z z' : ℕ} → x ≡ x' → y ≡ y' → z ≡ z' →
    ◌≡◌ {A = TraceStep} (record { out = x; into = y; mask = z }) (record { out = x'; into = y'; mask = z' })
same-step-words p q r = cc

-- what the search came to
abbrev pub Compares : Option StepWord → TraceStep → TraceStep → Type 0
Compares none a b = a ≡ b
Compares (some w) a b = Differs w a b

pub found : (a b : TraceStep) → Compares (first_wrong a b) a b
unfolding first_wrong
found a b = go (eqb a.out b.out) refl (eqb a.into b.into) refl (eqb a.mask b.mask) refl
  where
    go : (x : Bool) → eqb a.out b.out ≡ x → (y : Bool) → eqb a.into b.into ≡ y →
        (z : Bool) → eqb a.mask b.mask ≡ z →
        Compares (cond x (cond y (cond z none (some mask_word)) (some entering-word)) (some leaving-word)) a b
    go true p true q true r =
        same-step-words ((tells-eq _ _).if-true p) ((tells-eq _ _).if-true q) ((tells-eq _ _).if-true r)
    go true p true q false r = ((tells-eq _ _).if-true p, (tells-eq _ _).if-true q, (tells-eq _ _).if-false r)
    go true p false q z r = ((tells-eq _ _).if-true p, (tells-eq _ _).if-false q)
    go false p y q z r = (tells-eq _ _).if-false p

-- ---- the words of a step of the run

module _ {X : Type 0} (𝓥 : Values X) (P : Problem X) where
  words-goes : (s t : State X) (G : Goes 𝓥 P s t) →
      step_words 𝓥 P s t ≡ record { out = G.out.variable; into = G.into; mask = basis_mask (vars P) t }
  unfolding step_words
  words-goes s t G = rw (G.leaves, step_words) (rw G.enters refl)

  pub run-words : (s t : State X) → step 𝓥 P s ≡ goes t → RunStep 𝓥 P s t (step_words 𝓥 P s t)
  run-words s t e = let G = step-goes 𝓥 P s t e in subst (RunStep 𝓥 P s t) (sym (words-goes s t G)) (record {
    leaving = G.out;
    left = left 𝓥 P s G.out G.leaves;
    entered = entered 𝓥 P s G.out G.into G.enters;
    out-is = refl;
    mask_is = mask-exactly (vars P) t;
  })
