-- docs/RULES.md, "Replaying a trace": another solver's run as words, three for each step, held against the run of the
-- problem. A trace is f, the step at each place, and how many steps it has.
--   mask_below, bit_in      a set of numbers as a mask, and whether a number is in it
--   TraceStep             the words of a step: who leaves, who enters, and the basic variables afterwards
--   step_words             those of the step that the run completes from a state
--   replayed_from          the run from a state against the steps of a trace from one on
--   replayed              .. from the start. A start conflict has no step
--   replay_refusal         the problem's own refusals, then 51
use Rattle.std.specs.Prelude.{Bool, true, false, cond, not, List, [], ◌∷◌, ◌++◌, ℕ, zero, suc, ◌+◌, ◌*◌, ◌/◌, ◌%◌, ◌^◌}
use Rattle.std.specs.Prelude.{eqb, ℤ, get_or, length}
use Rattle.std.proofs.Math.Option.{Option, none, some}
use Rattle.whole.specs.Values.{Values, pairs}
use Rattle.rules.specs.Problem.{Problem, inner, problem, vars}
use Rattle.rules.specs.Refusal.{first, problem_tests}
use Rattle.rules.specs.Run.{conflict}
use Rattle.rules.specs.Sizes.{most_rows}
use Rattle.rules.specs.Step.{State, Outcome, can, cannot, entering, goes, leaving, range, seat, start, step}

-- ---- masks: number v at bit v

abbrev pub bit_at : ℕ → Bool → ℕ
bit_at v true = 2 ^ v
bit_at v false = 0

-- of those below k that f says are in
unfoldable pub mask_below : ℕ → (ℕ → Bool) → ℕ
mask_below zero f = 0
mask_below (suc k) f = mask_below k f + bit_at k (f k)

-- is v in
unfoldable pub bit_in : ℕ → ℕ → Bool
bit_in mask v = eqb (mask / 2 ^ v % 2) 1

abbrev pub is_basic : {X : Type 0} → Option X → Bool
is_basic none = true
is_basic (some x) = false

-- the basic ones of N variables
abbrev pub basis_mask : {X : Type 0} → ℕ → State X → ℕ
basis_mask N s = mask_below N (λ v. is_basic (seat s v))

-- ---- a step of a trace

pub record TraceStep : Type 0 where
  pub out : ℕ
  pub into : ℕ
  pub mask : ℕ

-- its words, by their places
pub data StepWord : Type 0 where
  leaving-word entering-word mask_word : StepWord

-- the first that differs
unfoldable pub first_wrong : TraceStep → TraceStep → Option StepWord
first_wrong a b = cond (eqb a.out b.out)
    (cond (eqb a.into b.into) (cond (eqb a.mask b.mask) none (some mask_word)) (some entering-word))
    (some leaving-word)

-- three words each
abbrev pub step_at : List ℕ → ℕ → TraceStep
step_at trace k = record {
  out = get_or trace (3 * k) 0;
  into = get_or trace (3 * k + 1) 0;
  mask = get_or trace (3 * k + 2) 0;
}

abbrev pub step_count : List ℕ → ℕ
step_count trace = length trace / 3

-- ---- the run against a trace

-- accepted; the first wrong step with its first wrong word; it stops early; it goes on past the end
pub data Replayed : Type 0 where
  accepted : Replayed
  wrong : ℕ → StepWord → Replayed
  early past : Replayed

-- the trace has no step more: the run is over too, or goes on
abbrev pub at_end : {X : Type 0} → Outcome X → Replayed
at_end can = accepted
at_end (cannot ls us) = accepted
at_end range = accepted
at_end (goes t) = early

-- the trace has a step more: the run is over, or goes to t
abbrev pub against : {X : Type 0} → Outcome X → (State X → Replayed) → Replayed
against can f = past
against (cannot ls us) f = past
against range f = past
against (goes t) f = f t

abbrev pub unless : Option StepWord → ℕ → Replayed → Replayed
unless none k r = r
unless (some w) k r = wrong k w

-- a start conflict has the empty trace
abbrev pub empty_only : ℕ → Replayed
empty_only zero = accepted
empty_only (suc k) = past

module _ {X : Type 0} (𝓥 : Values X) where
  -- the words of the step from s to t; where none leaves or none enters there is no step, and no word counts
  unfoldable pub step_words : Problem X → State X → State X → TraceStep
  step_words P s t = elim (leaving 𝓥 P s) [
    | none ↦ record { out = 0; into = 0; mask = 0 }
    | some r ↦ elim (entering 𝓥 P s r) [
      | none ↦ record { out = 0; into = 0; mask = 0 }
      | some w ↦ record { out = r.variable; into = w; mask = basis_mask (vars P) t }
    ]
  ]

  -- the run at s, k steps on, against as many further steps of the trace
  unfoldable pub replayed_from : Problem X → State X → (ℕ → TraceStep) → (k more : ℕ) → Replayed
  replayed_from P s f k zero = at_end (step 𝓥 P s)
  replayed_from P s f k (suc more) = against (step 𝓥 P s) (λ t.
      unless (first_wrong (step_words P s t) (f k)) k (replayed_from P t f (suc k) more))

  unfoldable pub replayed : Problem X → (ℕ → TraceStep) → ℕ → Replayed
  replayed P f steps = elim (conflict 𝓥 P) [
    | none ↦ replayed_from P (start 𝓥 P) f 0 steps
    | some v ↦ empty_only steps
  ]

-- ---- words

abbrev pub replayed_words : List ℤ → List ℕ → Replayed
replayed_words ws trace = replayed pairs (inner (problem ws)) (step_at trace) (step_count trace)

-- words left over
unfoldable pub bad_trace : List ℕ → Bool
bad_trace trace = not (eqb (length trace % 3) 0)

unfoldable pub replay_refusal : List ℤ → List ℕ → ℕ
replay_refusal ws trace = first (problem_tests most_rows ws ++ ((bad_trace trace, 51) ∷ []))
