-- When two sessions of the rules are the same, up to what their sizes leave open. A struct stands for sessions; those
-- that it stands for are the same (`session-only`).
use Rattle.std.specs.Prelude.{◌≡◌, ℕ, ◌<◌, ℤ}
use Rattle.rules.specs.Problem.{vars}
use Rattle.rules.specs.Runs.Session.{is_on}
use Rattle.rules.specs.Step.{above, below, common, seat}
use Rattle.rules.specs.Tableau.{entry}
use Rattle.rules.specs.Runs.Session as rules
use Rattle.slices.specs.Slices.{SameProblem}

-- one problem, the same limits on, and the same state
pub record SameSession (A B : rules.Session (ℤ × ℤ)) : Type 0 where
  pub problem : SameProblem A.given B.given
  pub lowers-on : (v : ℕ) → v < vars A.given → is_on A below v ≡ is_on B below v
  pub uppers-on : (v : ℕ) → v < vars A.given → is_on A above v ≡ is_on B above v
  pub seats : (v : ℕ) → v < vars A.given → seat A.state v ≡ seat B.state v
  pub common-is : common A.state ≡ common B.state
  pub entries : (v w : ℕ) → v < vars A.given → w < vars A.given →
      entry A.state.tableau v w ≡ entry B.state.tableau v w
