-- What a check hands back, by whether there is room for an answer, and what that means.
--   spent-limits          a run keeps its limits, those that are off too
--   check-short, check-long     the equations of the promise
--   slice_of              a session is a state from which a run may start, with no pivots yet
--   checks-as             what they mean for every session of the rules that the struct stands for
use mathlib.Core.Bool.{Bool, true, false}
use mathlib.Core.List.{List, [], ◌++◌}
use mathlib.Core.Path.{◌≡◌, ap, refl, subst, subst₂, sym, ◌∙◌}
use Prim.Native.Nat.{ℕ, zero, suc, ◌*◌, ◌+◌, ◌≤◌}
use native.Mathlib.Omega.{arith}
use lib.Dec.{ltb}
use lib.IntN.{ℤ}
use lib.ListN.{drop, length}
use Rattle.whole.specs.Values.{pairs}
use Rattle.whole.proofs.Values.Beside.{pairs-laws}
use Rattle.rules.proofs.Refusal.First.{first-hit, first-skip}
use Rattle.rules.proofs.Runs.Session.Fair.{fair-ready, fair-rested}
use Rattle.rules.proofs.Runs.Session.Sliced.{check-sliced}
use Rattle.rules.proofs.Runs.Slices.{on-way-start}
use Rattle.rules.specs.Problem.{Problem, vars}
use Rattle.rules.specs.Refusal.{first}
use Rattle.rules.specs.Run.{bound}
use Rattle.rules.specs.Runs.Session.{check_answer, check_length, check_refusal, live_of, rested}
use Rattle.rules.specs.Runs.Slices.{continued, slice_length, slice_output}
use Rattle.rules.specs.Runs.Session as rules
use Rattle.rules.specs.Runs.Slices as slices
use Rattle.layout.specs.Layout.{in_use}
use Rattle.tableau.specs.declared.Tableau.{Tableau}
use Rattle.tableau.specs.Pivot.{pivoted_laid, swapped_at}
use Rattle.tableau.specs.Stands.{Stands}
use Rattle.search.specs.declared.Choice.{Choice}
use Rattle.search.specs.declared.Next.{Next}
use Rattle.search.specs.declared.Next.TheVariants as nexts
use Rattle.search.specs.Search.{next_laid}
use Rattle.std.proofs.Common.{Option, Some, None}
use Rattle.tableau.specs.declared.Variable.{Variable}
use Rattle.answers.specs.Answer.{is_short}
use Rattle.answers.specs.Conflict.{conflict_at}
use Rattle.steps.specs.Step.{Course, admit_at, fits_by_laid, moved_laid, on, over, step_laid, stepped_at, stepped_laid}
use Rattle.solver.specs.Spend as solver
use Rattle.solver.specs.Spend.{many_of, out_at, ran_at, spent_as, spent_at, spent_by, spent_where}
use Rattle.rules.proofs.Termination.Bound.{bound-small}
use Rattle.solver.proofs.Laws.Stands.Slices.{holds_more, many_is, out-is}
use Rattle.session.specs.declared.Checked.{Checked}
use Rattle.session.specs.declared.Session.{Session}
use Rattle.session.specs.Sessions.{CheckMeans, ChecksAs, Flags, SessionHolds, Offers, SessionStanding}
use Rattle.session.specs.Sessions.{checked_at, checked_where, check_output_at, check_output_where, unlimited}

-- ---- a run keeps its limits

stepped-limits : (t : Tableau) → (stepped_at t).tableau.limits ≡ t.limits
unfolding stepped_laid step_laid moved_laid swapped_at pivoted_laid
stepped-limits t = go (next_laid in_use t)
  where
    admitted : (c : Choice) (b : Bool) → (admit_at b t (moved_laid in_use t c)).tableau.limits ≡ t.limits
    admitted c true = refl
    admitted c false = refl

    go : (n : Next) → (step_laid in_use t n).tableau.limits ≡ t.limits
    go nexts.Within = refl
    go (nexts.Stuck b) = refl
    go (nexts.Pivot c) = admitted c (fits_by_laid in_use t c)

ran-limits : (b : ℕ) (t : Tableau) → (ran_at t b).tableau.limits ≡ t.limits
unfolding ran_at
ran-limits zero t = refl
ran-limits (suc b) t = go (stepped_at t).course (ran-limits b (stepped_at t).tableau ∙ stepped-limits t)
  where
    go : (w : Course) → (ran_at (stepped_at t).tableau b).tableau.limits ≡ t.limits →
        (spent_by w t (ran_at (stepped_at t).tableau b)).tableau.limits ≡ t.limits
    go (over e) h = refl
    go on h = h

spent-limits : (t : Tableau) (k b : ℕ) → (spent_at t k b).tableau.limits ≡ t.limits
unfolding spent_as
spent-limits t k b = go (conflict_at t.limits (many_of t))
  where
    go : (c : Option Variable) → (spent_where c true t k b).tableau.limits ≡ t.limits
    go (Some v) = refl
    go None = ran-limits b t

-- ---- a session is a state from which a run may start

module _ (A : rules.Session (ℤ × ℤ)) (s : Session) (H : SessionHolds A s) where
  abbrev t : Tableau
  t = s.tableau

  abbrev P : Problem (ℤ × ℤ)
  P = live_of A

  abbrev S : slices.Slice (ℤ × ℤ)
  S = record { problem = P; state = A.state; count = 0 }

  pub slice_of : solver.Holds S t 0
  slice_of = record {
    stands = H.stands;
    ranged = H.ranged;
    count-is = refl;
    on-way = on-way-start P A.state (fair-ready pairs A H.fair);
  }

  -- no run has more pivots than there are to spend
  enough : bound A.given ≤ unlimited
  enough = let b = bound-small A.given H.stands.sized.few-rows H.stands.sized.few-columns in omega arith

  answer-is : (before : List ℤ) → out_at t 0 unlimited before ≡ check_answer A ++ drop (check_length A) before
  unfolding slice_output
  answer-is before = (out-is slice_of unlimited before).1
      ∙ ap (λ a. slice_output a (slice_length S) before) (check-sliced A H.fair unlimited enough).0

  stands-rested : Stands P (spent_at t 0 unlimited).tableau (rested pairs A).state
  unfolding continued
  stands-rested = subst (Stands P (spent_at t 0 unlimited).tableau) (check-sliced A H.fair unlimited enough).1
      (holds_more slice_of unlimited).stands

  holds-rested : SessionHolds (rested pairs A) (record { tableau = (spent_at t 0 unlimited).tableau })
  unfolding rested
  holds-rested = let e = sym (spent-limits t 0 unlimited) in record {
    stands = stands-rested;
    ranged = (holds_more slice_of unlimited).ranged;
    offers = subst (Offers A.given) e H.offers;
    flags = subst (Flags (vars A.given) A.lowers_on A.uppers_on) e H.flags;
    fair = fair-rested pairs pairs-laws A H.fair;
  }

-- ---- by whether there is room

module _ (s : Session) (before : List ℤ) where
  abbrev short : Bool
  short = is_short (length before) (many_of s.tableau)

  by-room : (x : Bool) → short ≡ x →
      (checked_where x s ≡ checked_at s (length before)) × (check_output_where x s before ≡ check_output_at s before)
  unfolding checked_at check_output_at
  by-room x q = (ap (λ y. checked_where y s) (sym q), ap (λ y. check_output_where y s before) (sym q))

  pub check-short : short ≡ true →
      (record { refused = 7; session = s } ≡ checked_at s (length before)) × (before ≡ check_output_at s before)
  check-short = by-room true

  pub check-long : short ≡ false →
      (checked_where false s ≡ checked_at s (length before))
      × (out_at s.tableau 0 unlimited before ≡ check_output_at s before)
  check-long = by-room false

  module _ (A : rules.Session (ℤ × ℤ)) (H : SessionHolds A s) where
    room-is : (x : Bool) → short ≡ x → ltb (length before) (check_length A) ≡ x
    room-is x q = ap (λ N. ltb (length before) (3 + 2 * N)) (sym (many_is (slice_of A s H))) ∙ q

    means-by : (x : Bool) → short ≡ x →
        CheckMeans A before (checked_where x s) (check_output_where x s before)
    unfolding check_refusal first
    means-by true q = record { number = sym (first-hit 7 [] (room-is true q)); output = refl; state = H }
    means-by false q = record {
      number = sym (first-skip 7 [] (room-is false q));
      output = answer-is A s H before;
      state = holds-rested A s H;
    }

    means-at : CheckMeans A before (checked_at s (length before)) (check_output_at s before)
    unfolding checked_at check_output_at
    means-at = means-by (short) refl

  pub checks-as : SessionStanding s → {r : Checked} {after : List ℤ} →
      r ≡ checked_at s (length before) → after ≡ check_output_at s before → ChecksAs s before r after
  checks-as T {r} {after} e f = record {
    means = meant;
    standing = record { session = _; holds = (meant T.session T.holds).state };
  }
    where
      meant : (A : rules.Session (ℤ × ℤ)) → SessionHolds A s → CheckMeans A before r after
      meant A H = subst₂ (CheckMeans A before) (sym e) (sym f) (means-at A H)
