-- One body more, over the struct: what an answer, or a refusal, makes of the totals.
--   Countable, Auditable    what the totals and an answer must hold, so that every sum fits
--   refused_at, counted_at   a body that is refused, or has an answer
--   audited_at              .. whichever it is
use Rattle.std.specs.Prelude.{cond, not, List, ◌++◌, ◌≡◌, ℕ, max, suc, zero, ◌*◌, ◌+◌, ◌<◌, ◌≤◌, ltb, nat_abs, pos, ℤ}
use Rattle.std.specs.Prelude.{drop, get_or, length, replicate, set, ◌≤ℤ◌}
use Rattle.whole.specs.Numbers.{eq_z}
use Rattle.whole.specs.Tables.{table}
use Rattle.rules.specs.Answer.{answer}
use Rattle.rules.specs.Problem.{vars_of, word}
use Rattle.rules.specs.Refusal.{problem_refusal_within}
use Rattle.rules.specs.Run.{most_count}
use Rattle.rules.specs.Sizes.{most_bodies, most_variables}
use Rattle.std.specs.Prelude.{None, Option, Some}
use Rattle.tally.specs.declared.Totals.{Totals}

-- ---- what fits

-- so many counts, each at most the bodies of a file
pub record Few (many : ℕ) (counts : List ℕ) : Type 0 where
  pub counted : length counts ≡ many
  pub few : (v : ℕ) → get_or counts v 0 ≤ most_bodies

pub record Countable (t : Totals) : Type 0 where
  pub few-bodies : t.bodies < most_bodies
  pub few-can : t.can ≤ t.bodies
  pub few-cannot : t.cannot ≤ t.bodies
  pub few-range : t.range ≤ t.bodies
  pub few-refused : Few 11 t.refused
  pub few-pivots : t.pivots ≤ t.bodies * most_count
  pub few-lower : Few most_variables t.lower
  pub few-upper : Few most_variables t.upper

-- an answer of N variables: all of its words, and the count of a run
pub record Auditable (a : List ℤ) (N : ℕ) : Type 0 where
  pub few-variables : N ≤ most_variables
  pub whole : 3 + 2 * N ≤ length a
  pub count-least : pos 0 ≤ℤ word a 1
  pub count_most : nat_abs (word a 1) < most_count

-- ---- the parts

unfoldable pub leader_of : Option ℕ → ℕ → ℕ → ℕ → Option ℕ
leader_of None largest pivots body = Some body
leader_of (Some before) largest pivots body = cond (ltb largest pivots) (Some body) (Some before)

unfoldable pub naming_of : ℤ → ℕ → ℕ
naming_of verdict N = cond (eq_z verdict (pos 2)) N 0

-- one more where the multiplier of v is not 0
abbrev pub one_more : List ℕ → List ℤ → ℕ → ℕ → ℕ
one_more counts a at v = get_or counts v 0 + cond (not (eq_z (word a (at + v)) (pos 0))) 1 0

unfoldable pub tallied_at : List ℕ → List ℤ → ℕ → ℕ → List ℕ
tallied_at counts a at N = table N (one_more counts a at) ++ drop N counts

-- ---- the totals

unfoldable pub no_totals : Totals
no_totals = record {
  bodies = 0;
  can = 0;
  cannot = 0;
  range = 0;
  refused = replicate 11 0;
  pivots = 0;
  largest = 0;
  reached = None;
  lower = replicate most_variables 0;
  upper = replicate most_variables 0;
}

unfoldable pub refused_at : Totals → ℕ → Totals
refused_at t k = record {
  bodies = t.bodies + 1;
  can = t.can;
  cannot = t.cannot;
  range = t.range;
  refused = set t.refused k (get_or t.refused k 0 + 1);
  pivots = t.pivots;
  largest = t.largest;
  reached = t.reached;
  lower = t.lower;
  upper = t.upper;
}

unfoldable pub counted_at : Totals → List ℤ → ℕ → ℕ → Totals
counted_at t a N body = let p : ℕ = nat_abs (word a 1) in let named : ℕ = naming_of (word a 0) N in record {
  bodies = t.bodies + 1;
  can = t.can + cond (eq_z (word a 0) (pos 1)) 1 0;
  cannot = t.cannot + cond (eq_z (word a 0) (pos 2)) 1 0;
  range = t.range + cond (eq_z (word a 0) (pos 3)) 1 0;
  refused = t.refused;
  pivots = t.pivots + p;
  largest = max t.largest p;
  reached = leader_of t.reached t.largest p body;
  lower = tallied_at t.lower a 3 named;
  upper = tallied_at t.upper a (3 + N) named;
}

-- by the refusal of the words, with at most so many rows
unfoldable pub audited_by : ℕ → Totals → List ℤ → ℕ → Totals
audited_by zero t ws body = counted_at t (answer ws) (vars_of ws) body
audited_by (suc k) t ws body = refused_at t (suc k)

unfoldable pub audited_at : ℕ → Totals → List ℤ → ℕ → Totals
audited_at rows t ws body = audited_by (problem_refusal_within rows ws) t ws body
