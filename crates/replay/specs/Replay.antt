-- docs/RULES.md, "Replaying a trace", over the enums of the code.
--   replayed_by       each answer
--   told_of           an answer in numbers, or a refusal
--   told_as           .. by the rules
--   compared_by       a step against the basic variables before and after it
--   FollowsAs        the trace against the run from a first state
use Rattle.std.specs.Prelude.{Result, Ok, Err, Bool, cond, false, true, List, ◌≡◌, ℕ, suc, zero, eqb, ℤ}
use Rattle.std.proofs.Math.Option.{Option, none, some}
use Rattle.whole.specs.Values.{pairs}
use Rattle.rules.specs.Problem.{Problem}
use Rattle.rules.specs.Runs.Replay.{StepWord, accepted, early, entering-word, leaving-word, mask_word, past}
use Rattle.rules.specs.Runs.Replay.{replayed, step_at, step_count, wrong}
use Rattle.rules.specs.Runs.Replay as rules
use Rattle.rules.specs.Runs.Slices.{begun}
use Rattle.tableau.specs.declared.Tableau.{Tableau}
use Rattle.masks.specs.Masks.{went_from}
use Rattle.solver.specs.Spend.{Holds}
use Rattle.replay.specs.declared.Replayed.{Replayed}
use Rattle.replay.specs.declared.Replayed.TheVariants as answers
use Rattle.replay.specs.declared.Told.{Told}
use Rattle.replay.specs.declared.Word.{Word}
use Rattle.replay.specs.declared.Word.TheVariants as words

abbrev pub word_of : StepWord → Word
word_of leaving-word = words.Leaving
word_of entering-word = words.Entering
word_of mask_word = words.Mask

abbrev pub replayed_by : rules.Replayed → Replayed
replayed_by accepted = answers.Accepted
replayed_by (wrong k w) = answers.Wrong k (word_of w)
replayed_by early = answers.Early
replayed_by past = answers.Past

-- in numbers: 52 to 54 are this project's own
abbrev pub place_of : Word → ℕ
place_of words.Leaving = 0
place_of words.Entering = 1
place_of words.Mask = 2

abbrev pub told_of : Result Replayed ℕ → Told
told_of (Ok answers.Accepted) = record { number = 0; word = 0; step = 0 }
told_of (Ok (answers.Wrong k w)) = record { number = 52; word = place_of w; step = k }
told_of (Ok answers.Early) = record { number = 53; word = 0; step = 0 }
told_of (Ok answers.Past) = record { number = 54; word = 0; step = 0 }
told_of (Err k) = record { number = k; word = 0; step = 0 }

-- .. by the rules: a refusal comes first
abbrev pub told_as : ℕ → rules.Replayed → Told
told_as zero r = told_of (Ok (replayed_by r))
told_as (suc k) r = record { number = suc k; word = 0; step = 0 }

-- ---- a step

-- by the tests of the three words, the first first
abbrev pub tested : Bool → Bool → Bool → Result Unit Word
tested true true true = Ok tt
tested true true false = Err words.Mask
tested true false c = Err words.Entering
tested false b c = Err words.Leaving

unfoldable pub compared_by : (before after leaving entering mask : ℕ) → Result Unit Word
compared_by before after leaving entering mask =
    tested (went_from before after leaving) (went_from after before entering) (eqb mask after)

abbrev pub compared_of : Option StepWord → Result Unit Word
compared_of none = Ok tt
compared_of (some w) = Err (word_of w)

-- the run is over
abbrev pub last_is : ℕ → ℕ → Replayed
last_is made steps = cond (eqb made steps) answers.Accepted answers.Past

-- ---- the run

-- the answer for every problem whose first state the tableau stands for
abbrev pub FollowsAs : Tableau → List ℕ → Replayed → Type 0
FollowsAs first trace r = (P : Problem (ℤ × ℤ)) → Holds (begun pairs P) first 0 →
    r ≡ replayed_by (replayed pairs P (step_at trace) (step_count trace))
