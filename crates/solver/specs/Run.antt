-- The run by place: the steps one after the other, and the words of the answer that it comes to.
use Rattle.std.specs.Prelude.{List, ◌≡◌, ℕ, zero, suc, ◌<◌, ℤ, pos}
use Rattle.std.proofs.Math.Option.{none}
use Rattle.whole.specs.Values.{pairs}
use Rattle.rules.specs.Problem.{Problem}
use Rattle.rules.specs.Run.{conflict, most_count}
use Rattle.rules.specs.Step.{State}
use Rattle.rules.specs.Facts.State.{Ready}
use Rattle.tableau.specs.declared.Tableau.{Tableau}
use Rattle.layout.specs.Layout.{Order, in_use}
use Rattle.tableau.specs.Stands.{Ranged, Stands}
use Rattle.search.specs.declared.Blocked.{Blocked}
use Rattle.search.specs.Search.{Searchable}
use Rattle.answers.specs.declared.multipliers.Multipliers.{Multipliers}
use Rattle.answers.specs.declared.Verdict.TheVariants as verdicts
use Rattle.answers.specs.Answer.{noughts, numerators_laid, words_at}
use Rattle.answers.specs.Multipliers.{multipliers_laid}
use Rattle.steps.specs.declared.End.{End}
use Rattle.steps.specs.declared.End.TheVariants as ends
use Rattle.steps.specs.Step.{on, over, stepped_laid}

-- the tableau after k steps
unfoldable pub after_laid : Order → Tableau → ℕ → Tableau
after_laid o t zero = t
after_laid o t (suc k) = (stepped_laid o (after_laid o t k)).tableau

-- the first k steps go on
abbrev pub GoesOnLaid : Order → Tableau → ℕ → Type 0
GoesOnLaid o t k = (i : ℕ) → i < k → (stepped_laid o (after_laid o t i)).course ≡ on

-- the run: k steps that go on, the step that ends it, and the last tableau
pub record FinishedLaid (o : Order) (t : Tableau) (e : End) (k : ℕ) (u : Tableau) : Type 0 where
  pub goes_on : GoesOnLaid o t k
  pub ended : (stepped_laid o (after_laid o t k)).course ≡ over e
  pub last : u ≡ after_laid o t k

-- ---- the words of a run that ended

unfoldable pub words_laid : Order → End → ℕ → Tableau → ℕ → List ℤ
words_laid o ends.Can k t N = words_at verdicts.Can k t.common N
    (numerators_laid o t.entries t.values t.seats t.common t.rows t.columns)
    (numerators_laid o t.entries t.smalls t.seats t.common t.rows t.columns)
words_laid o (ends.Cannot b) k t N =
    let M : Multipliers = multipliers_laid o t.entries t.seats t.common t.rows t.columns b in
    words_at verdicts.Cannot k (pos 0) N M.lower M.upper
words_laid o ends.Range k t N = words_at verdicts.Range k (pos 0) N noughts noughts

-- ---- the same in the order in use

abbrev pub after_at : Tableau → ℕ → Tableau
after_at = after_laid in_use

abbrev pub GoesOn : Tableau → ℕ → Type 0
GoesOn = GoesOnLaid in_use

abbrev pub Finished : Tableau → End → ℕ → Tableau → Type 0
Finished = FinishedLaid in_use

abbrev pub end_words : End → ℕ → Tableau → ℕ → List ℤ
end_words = words_laid in_use

-- a last tableau that a search could read, and a blocked row that is one
pub record Tellable (e : End) (k : ℕ) (t : Tableau) : Type 0 where
  pub searchable : Searchable t
  pub counted : k < most_count
  pub row_in : (b : Blocked) → e ≡ ends.Cannot b → b.row.0 < t.rows

-- ---- where a run may start

-- a tableau that stands for a state from which a check may start, crossed limits or not
pub record Begun (t : Tableau) : Type 0 where
  pub problem : Problem (ℤ × ℤ)
  pub state : State (ℤ × ℤ)
  pub stands : Stands problem t state
  pub ready : Ready pairs problem state
  pub ranged : Ranged t

-- .. and no limits cross
pub record Startable (t : Tableau) : Type 0 where
  pub begun : Begun t
  pub uncrossed : conflict pairs begun.problem ≡ none
