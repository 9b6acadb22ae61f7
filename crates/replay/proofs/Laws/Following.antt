-- The run followed for some steps of a trace, one pivot at a time.
--   Following          the trace's steps so far are those of the run, and what is left of both is what is to be told
--   following-start    no step yet
--   following-over     the run is over: as many steps, or more in the trace
--   following-early    the trace is
--   following-wrong, following-more    the next step differs, or does not
use mathlib.Core.Bool.{cond, false, true}
use mathlib.Core.List.{List}
use mathlib.Core.Option.{Option, none, some}
use mathlib.Core.Path.{ap, ap₂, refl, subst, sym, ◌∙◌, ◌≡◌}
use mathlib.Core.Logic.{◌≢◌}
use Prim.Native.Nat.{ℕ, suc, zero, ◌+◌, ◌-◌, ◌≤◌}
use native.Mathlib.Decide.{ℕ_discrete}
use native.Mathlib.Omega.{arith}
use lib.IntN.{ℤ}
use Rattle.whole.proofs.Bools.{true-false, zero_one}
use Rattle.whole.proofs.Tells.{tells-eq, tells-false, tells-true}
use Rattle.whole.specs.Values.{pairs}
use Rattle.rules.proofs.Runs.Replay.Answers.{replayed-crossed, replayed-run}
use Rattle.rules.proofs.Runs.Replay.Exactly.{end-accepted, end-past}
use Rattle.rules.proofs.Runs.Slices.{on-way-apart, on-way-rowed}
use Rattle.rules.specs.Problem.{Problem, vars}
use Rattle.rules.specs.Runs.Replay.{Replayed, StepWord, TraceStep, against, at_end, basis_mask, empty_only}
use Rattle.rules.specs.Runs.Replay.{first_wrong, replayed, replayed_from, step_at, step_count, step_words, unless}
use Rattle.rules.specs.Run.{Ended, conflict}
use Rattle.rules.specs.Runs.Slices.{Slice, begun}
use Rattle.rules.specs.Step.{State, goes, start, step}
use Rattle.tableau.specs.declared.Tableau.{Tableau}
use Rattle.masks.specs.Masks.{seats_mask}
use Rattle.solver.specs.declared.spend.Spent.{Spent}
use Rattle.solver.specs.Spend.{Holds, Standing, many_of, out_as, spent_as}
use Rattle.solver.proofs.Laws.Stands.Slices.{many_is}
use Rattle.std.proofs.Common.{Ok, Err}
use Rattle.replay.specs.declared.Replayed.TheVariants as answers
use Rattle.replay.specs.declared.Word.{Word}
use Rattle.replay.specs.Replay.{FollowsAs, compared_by, compared_of, last_is, replayed_by, word_of}
use Rattle.replay.proofs.Laws.Compared.{compared_is}
use Rattle.replay.proofs.Laws.Turn.{PivotIs, stands-mask, pivot-comes, pivot-crossed, pivot-goes, pivot-over}
use Rattle.replay.proofs.Laws.Turn.{unanswered-keeps}

-- of a problem: the state where the run is, k pivots on
pub record FollowsTo (P : Problem (ℤ × ℤ)) (trace : List ℕ) (mask : ℕ) (t : Tableau) (k : ℕ) : Type 0 where
  pub state : State (ℤ × ℤ)
  pub holds : Holds (record { problem = P; state = state; count = k }) t k
  pub mask_is : mask ≡ basis_mask (vars P) state
  pub left_is : conflict pairs P ≡ none → replayed pairs P (step_at trace) (step_count trace)
      ≡ replayed_from pairs P state (step_at trace) k (step_count trace - k)

pub record Following (first : Tableau) (trace : List ℕ) (variables : ℕ) (mask : ℕ) (t : Tableau) (k : ℕ) : Type 0 where
  pub standing : Standing t k
  pub many : many_of t ≡ variables
  pub few : k ≤ step_count trace
  pub follows : (P : Problem (ℤ × ℤ)) → Holds (begun pairs P) first 0 → FollowsTo P trace mask t k

mask-of-state : {P : Problem (ℤ × ℤ)} {s : State (ℤ × ℤ)} {t : Tableau} {k N : ℕ} →
    Holds (record { problem = P; state = s; count = k }) t k → many_of t ≡ N →
    seats_mask t.seats N ≡ basis_mask (vars P) s
mask-of-state {t = t} H e = ap (seats_mask t.seats) (sym e ∙ many_is H) ∙ stands-mask H.stands

pub following-start : (first : Tableau) (trace : List ℕ) (mask : ℕ) → Standing first 0 →
    mask ≡ seats_mask first.seats (many_of first) → Following first trace (many_of first) mask first 0
unfolding begun
following-start first trace mask S e = record {
  standing = S;
  many = refl;
  few = omega arith;
  follows = λ P H. record {
    state = start pairs P;
    holds = H;
    mask_is = e ∙ mask-of-state H refl;
    left_is = λ c. replayed-run P (step_at trace) (step_count trace) c
        ∙ ap (replayed_from pairs P (start pairs P) (step_at trace) 0)
        (let z : step_count trace ≡ step_count trace - 0 = omega arith in z);
  };
}

-- ---- what a step that ends the run says

last-equal : {a b : ℕ} → a ≡ b → last_is a b ≡ answers.Accepted
last-equal {a} {b} e = ap (λ x. cond x answers.Accepted answers.Past) (tells-true (tells-eq a b) e)

last_less : {a b : ℕ} → a ≢ b → last_is a b ≡ answers.Past
last_less {a} {b} n = ap (λ x. cond x answers.Accepted answers.Past) (tells-false (tells-eq a b) n)

module _ (P : Problem (ℤ × ℤ)) (s : State (ℤ × ℤ)) (f : ℕ → TraceStep) (k n : ℕ) (h : k ≤ n) where
  ended_is : Ended (step pairs P s) → last_is k n ≡ replayed_by (replayed_from pairs P s f k (n - k))
  unfolding replayed_from
  ended_is d = go (ℕ_discrete k n)
    where
      go : Dec (k ≡ n) → last_is k n ≡ replayed_by (replayed_from pairs P s f k (n - k))
      go (yes e) = last-equal e ∙ ap replayed_by (sym (ap (replayed_from pairs P s f k)
          (let z : n - k ≡ 0 = omega arith in z) ∙ end-accepted (step pairs P s) d))
      go (no e) = last_less e ∙ ap replayed_by (sym (ap (replayed_from pairs P s f k)
          (let z : n - k ≡ suc (n - suc k) = omega arith in z) ∙ end-past (step pairs P s) _ d))

  early-is : (u : State (ℤ × ℤ)) → step pairs P s ≡ goes u → k ≡ n →
      answers.Early ≡ replayed_by (replayed_from pairs P s f k (n - k))
  unfolding replayed_from
  early-is u z e = ap replayed_by (sym (ap (replayed_from pairs P s f k) (let y : n - k ≡ 0 = omega arith in y)
      ∙ ap at_end z))

  next-is : (u : State (ℤ × ℤ)) → step pairs P s ≡ goes u → k ≢ n → replayed_from pairs P s f k (n - k)
      ≡ unless (first_wrong (step_words pairs P s u) (f k)) k (replayed_from pairs P u f (suc k) (n - suc k))
  unfolding replayed_from
  next-is u z e = ap (replayed_from pairs P s f k) (let y : n - k ≡ suc (n - suc k) = omega arith in y)
      ∙ ap (λ o. against o (λ x.
      unless (first_wrong (step_words pairs P s x) (f k)) k (replayed_from pairs P x f (suc k) (n - suc k)))) z

crossed-is : (n : ℕ) → last_is 0 n ≡ replayed_by (empty_only n)
crossed-is zero = refl
crossed-is (suc n) = last_less {a = 0} {b = suc n} (λ e. let z : ⊥ = omega (arith, e) in z)

-- ---- one pivot more

module _ {first : Tableau} {trace : List ℕ} {N mask : ℕ} {t : Tableau} {k : ℕ}
    (F : Following first trace N mask t k) {r : Spent} (q : r ≡ spent_as false t k 1) where
  abbrev n : ℕ
  n = step_count trace

  turned : {S : Slice (ℤ × ℤ)} → Holds S t k → PivotIs S k r
  turned {S} H = subst (PivotIs S k) (sym q) (pivot-comes H)

  pub following-over : r.answered ≡ true → FollowsAs first trace (last_is k n)
  following-over a P H = let T = F.follows P H in go T (turned T.holds)
    where
      go : (T : FollowsTo P trace mask t k) → PivotIs (record { problem = P; state = T.state; count = k }) k r →
          last_is k n ≡ replayed_by (replayed pairs P (step_at trace) n)
      go T (pivot-crossed v c b) = let z = on-way-apart _ T.holds.on-way v c in
          ap (λ j. last_is j n) z ∙ crossed-is n ∙ ap replayed_by (sym (replayed-crossed P (step_at trace) n v c))
      go T (pivot-over c d b) = ended_is P T.state (step_at trace) k n F.few d ∙ ap replayed_by (sym (T.left_is c))
      go T (pivot-goes u c z b e X) = true-false a b

  module _ (a : r.answered ≡ false) where
    pub following-early : k ≡ n → FollowsAs first trace answers.Early
    following-early e P H = let T = F.follows P H in go T (turned T.holds)
      where
        go : (T : FollowsTo P trace mask t k) → PivotIs (record { problem = P; state = T.state; count = k }) k r →
            answers.Early ≡ replayed_by (replayed pairs P (step_at trace) n)
        go T (pivot-crossed v c b) = true-false b a
        go T (pivot-over c d b) = true-false b a
        go T (pivot-goes u c z b j X) = early-is P T.state (step_at trace) k n F.few u z e
            ∙ ap replayed_by (sym (T.left_is c))

    -- the next standing
    next-standing : Standing r.tableau r.count × (many_of r.tableau ≡ N) × (r.count ≡ k + 1)
    next-standing = go (turned F.standing.holds)
      where
        go : PivotIs F.standing.slice k r →
            Standing r.tableau r.count × (many_of r.tableau ≡ N) × (r.count ≡ k + 1)
        go (pivot-crossed v c b) = true-false b a
        go (pivot-over c d b) = true-false b a
        go (pivot-goes u c z b j X) = (
          subst (Standing r.tableau) (sym j) (record { slice = _; holds = X }),
          many_is X ∙ sym (many_is F.standing.holds) ∙ F.many,
          j,
        )

    following-many : many_of r.tableau ≡ N
    following-many = next-standing.1

    pub following-out : {out last : List ℤ} → last ≡ out_as false t k 1 out → last ≡ out
    following-out {out} e = e ∙ unanswered-keeps t k out (sym (ap (λ (x : Spent). x.answered) q) ∙ a)

    pub following-count : r.count ≡ k + 1
    following-count = next-standing.2

    module _ (e : k ≢ n) {after : ℕ} (m : after ≡ seats_mask r.tableau.seats N) where
      abbrev f : TraceStep
      f = step_at trace k

      -- what was compared
      compared-are : (P : Problem (ℤ × ℤ)) (T : FollowsTo P trace mask t k) (u : State (ℤ × ℤ)) →
          step pairs P T.state ≡ goes u →
          Holds (record { problem = P; state = u; count = k + 1 }) r.tableau (k + 1) →
          compared_by mask after f.out f.into f.mask
          ≡ compared_of (first_wrong (step_words pairs P T.state u) f)
      compared-are P T u z X =
          ap₂ (λ x y. compared_by x y f.out f.into f.mask) T.mask_is (m ∙ mask-of-state X following-many)
          ∙ compared_is pairs P T.state u (on-way-rowed _ T.holds.on-way).seats-many z f

      pub following-wrong : (w : Word) →
          compared_by mask after f.out f.into f.mask ≡ Err w →
          FollowsAs first trace (answers.Wrong k w)
      following-wrong w x P H = let T = F.follows P H in go T (turned T.holds)
        where
          told : (o : Option StepWord) (p : Replayed) → compared_of o ≡ Err w →
              answers.Wrong k w ≡ replayed_by (unless o k p)
          told none p y = let c : ◌≡◌ {A = ℕ} 0 1 = cc in zero_one c
          told (some v) p y = let c : word_of v ≡ w = cc in ap (answers.Wrong k) (sym c)

          go : (T : FollowsTo P trace mask t k) → PivotIs (record { problem = P; state = T.state; count = k }) k r →
              answers.Wrong k w ≡ replayed_by (replayed pairs P (step_at trace) n)
          go T (pivot-crossed v c b) = true-false b a
          go T (pivot-over c d b) = true-false b a
          go T (pivot-goes u c z b j X) = told (first_wrong (step_words pairs P T.state u) (step_at trace k))
              (replayed_from pairs P u (step_at trace) (suc k) (n - suc k)) (sym (compared-are P T u z X) ∙ x)
              ∙ ap replayed_by (sym (T.left_is c ∙ next-is P T.state (step_at trace) k n F.few u z e))

      pub following-more : compared_by mask after f.out f.into f.mask ≡ Ok tt →
          Following first trace N after r.tableau r.count
      following-more x = record {
        standing = next-standing.0;
        many = following-many;
        few = let h = F.few in let j = next-standing.2 in omega (arith, h, j, e);
        follows = λ P H. let T = F.follows P H in go P T (turned T.holds);
      }
        where
          passed : (o : Option StepWord) (p : Replayed) → compared_of o ≡ Ok tt → unless o k p ≡ p
          passed none p y = refl
          passed (some v) p y = let c : ◌≡◌ {A = ℕ} 0 1 = cc in zero_one c

          go : (P : Problem (ℤ × ℤ)) (T : FollowsTo P trace mask t k) →
              PivotIs (record { problem = P; state = T.state; count = k }) k r →
              FollowsTo P trace after r.tableau r.count
          go P T (pivot-crossed v c b) = true-false b a
          go P T (pivot-over c d b) = true-false b a
          go P T (pivot-goes u c z b j X) = subst (FollowsTo P trace after r.tableau) (sym j) (record {
            state = u;
            holds = X;
            mask_is = m ∙ mask-of-state X following-many;
            left_is = λ d. T.left_is d ∙ next-is P T.state (step_at trace) k n F.few u z e
                ∙ passed (first_wrong (step_words pairs P T.state u) (step_at trace k))
                (replayed_from pairs P u (step_at trace) (suc k) (n - suc k)) (sym (compared-are P T u z X) ∙ x)
                ∙ ap (λ i. replayed_from pairs P u (step_at trace) i (n - i))
                (let y : suc k ≡ k + 1 = omega arith in y);
          })
