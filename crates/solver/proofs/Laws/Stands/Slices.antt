-- A tableau and a count that stand for a state on the way of its run: what spending pivots from there comes to.
--   spent-where, out-where   by what the search for crossed limits says
--   held-slice, count-few, crossed-since     what the code needs
--   came-slice               where the run comes, if no limits cross
--   holds_more               what is handed back stands for the state of the rules
--   out-is                   the output is theirs, and whether it is answered
use mathlib.Core.Bool.{Bool, true}
use mathlib.Core.List.{List}
use mathlib.Core.Option.{some}
use mathlib.Core.Path.{◌≡◌, ap, ap₂, refl, subst, sym, ◌∙◌}
use Prim.Native.Nat.{ℕ, suc, zero, ◌+◌, ◌<◌, ◌≤◌}
use native.Mathlib.Omega.{arith}
use lib.IntN.{ℤ, pos}
use Rattle.whole.specs.Tables.{table}
use Rattle.whole.specs.Values.{pairs}
use Rattle.rules.proofs.Answer.Run.{spending-crossed, spending-run}
use Rattle.rules.proofs.Runs.Slices.{on-way-apart, on-way-below, on-way-more, on-way-rowed, told-ended, told-moves}
use Rattle.rules.specs.Answer.{words_of}
use Rattle.rules.specs.Facts.State.{Rowed}
use Rattle.rules.specs.Problem.{Problem, vars}
use Rattle.rules.specs.Run.{Ended, Ending, Moves, conflict, most_count, spending}
use Rattle.rules.specs.Runs.Slices.{Slice, continued, is_answer, slice_answer, slice_length, slice_output, told}
use Rattle.rules.specs.Sizes.{most_variables}
use Rattle.rules.specs.Step.{Outcome, cannot, evidence, same}
use Rattle.tableau.specs.declared.Tableau.{Tableau}
use Rattle.tableau.specs.declared.Variable.{Variable}
use Rattle.tableau.specs.Stands.{Ranged, Stands}
use Rattle.search.specs.Search.{blocked_at}
use Rattle.search.proofs.Laws.Stands.{all-vars}
use Rattle.answers.specs.declared.Verdict.TheVariants as verdicts
use Rattle.std.proofs.Common.{Option, Some, None}
use Rattle.answers.specs.Answer.{laid_over, words_at}
use Rattle.answers.specs.Conflict.{conflict_at}
use Rattle.answers.specs.Multipliers.{unit_at}
use Rattle.answers.proofs.Laws.Stands.Crossed.{crossing-at, crossing-in, crossing-none, crossing-told}
use Rattle.steps.specs.declared.End.{End}
use Rattle.steps.specs.declared.End.TheVariants as ends
use Rattle.steps.specs.Step.{Course, Held, on, over}
use Rattle.solver.specs.Run.{Tellable, end_words}
use Rattle.solver.specs.Spend.{Holds, Ran, Uncrossed, crossed_since, is_over, many_of, out_as, out_at, out_by}
use Rattle.solver.specs.Spend.{out_where, ran_at, spent_as, spent_at, spent_where}
use Rattle.solver.specs.Came.{Came, CourseIs, over-can, over-cannot, over-range, still-on}
use Rattle.solver.proofs.Laws.Stands.Came.{came}
use Rattle.rules.proofs.Termination.Bound.{bound-small}
use Rattle.solver.proofs.Laws.Stands.Told.{came-many, tellable-came, told-came}

-- ---- by what the search for crossed limits says

module _ (look : Bool) (t : Tableau) (k b : ℕ) where
  pub spent-where : (c : Option Variable) → conflict_at t.limits (many_of t) ≡ c →
      spent_as look t k b ≡ spent_where c look t k b
  unfolding spent_as
  spent-where c q = ap (λ x. spent_where x look t k b) q

  pub out-where : (c : Option Variable) → conflict_at t.limits (many_of t) ≡ c → (before : List ℤ) →
      out_as look t k b before ≡ out_where c look t k b before
  unfolding out_as
  out-where c q before = ap (λ x. out_where x look t k b before) q

-- ---- what stands for what

pub count-few : {S : Slice (ℤ × ℤ)} {t : Tableau} {k : ℕ} → Holds S t k → k < most_count
count-few {S} H = let a = on-way-below S H.on-way in
    let b = bound-small S.problem H.stands.sized.few-rows H.stands.sized.few-columns in
    let c = H.count-is in omega arith

module _ {S : Slice (ℤ × ℤ)} {t : Tableau} {k : ℕ} (H : Holds S t k) where
  abbrev P : Problem (ℤ × ℤ)
  P = S.problem

  rowed : Rowed pairs P S.state
  rowed = on-way-rowed S H.on-way

  pub held-slice : Held t
  held-slice = record { problem = P; state = S.state; stands = H.stands; rowed = rowed; ranged = H.ranged }

  pub many_is : many_of t ≡ vars P
  many_is = all-vars P t S.state H.stands rowed

  pub few-variables : many_of t ≤ most_variables
  few-variables = let a = H.stands.sized.few-rows in let b =
      H.stands.sized.few-columns in let c = many_is in omega arith

  -- the search for crossed limits may be left out behind the first pivot
  pub crossed-since : crossed_since k t.limits (many_of t) ≡ conflict_at t.limits (many_of t)
  crossed-since = go k refl (conflict_at t.limits (many_of t)) refl
    where
      go : (j : ℕ) → k ≡ j → (c : Option Variable) → conflict_at t.limits (many_of t) ≡ c →
          crossed_since j t.limits (many_of t) ≡ conflict_at t.limits (many_of t)
      go zero e c q = refl
      go (suc j) e None q = sym q
      go (suc j) e (Some v) q =
          let z = on-way-apart S H.on-way v.0 (crossing-at H.stands rowed v q) in
          let y = H.count-is in let x : ⊥ = omega (arith, y, z, e) in absurd x

  -- a continue of the rules, by what its run comes to
  continued-by : (b : ℕ) (e : Ending (ℤ × ℤ)) (u : Tableau) (j : ℕ) → spending pairs b P S.state S.count ≡ e →
      Stands P u e.last → Ranged u → e.pivots ≡ j → Holds (continued pairs S b) u j
  unfolding continued
  continued-by b e u j q St G n = record {
    stands = rw q St;
    ranged = G;
    count-is = ap (λ (x : Ending (ℤ × ℤ)). x.pivots) q ∙ n;
    on-way = on-way-more S H.on-way b;
  }

  -- ---- no limits cross

  module _ (free : Uncrossed t) (b : ℕ) where
    abbrev r : Ran
    r = ran_at t b

    abbrev e : Ending (ℤ × ℤ)
    e = spending pairs b P S.state S.count

    came-slice : Came P r e S.count
    came-slice = subst (λ x. Came P r x S.count)
        (sym (spending-run pairs P (crossing-none H.stands rowed free) b S.state S.count))
        (came b S.count t S.state H.stands rowed H.ranged)

    total-is : S.count + r.count ≡ k + r.count
    total-is = ap (λ j. j + r.count) H.count-is

    holds-ran : Holds (continued pairs S b) r.tableau (k + r.count)
    holds-ran = continued-by b e r.tableau (k + r.count) refl came-slice.stands came-slice.ranged
        (sym came-slice.count-is ∙ total-is)

    pub total-few : k + r.count < most_count
    total-few = count-few holds-ran

    pub tellable-slice : (w : End) → r.course ≡ over w → Tellable w (k + r.count) r.tableau
    tellable-slice w q = subst (λ j. Tellable w j r.tableau) total-is
        (tellable-came came-slice w q (subst (λ j. j < most_count) (sym total-is) total-few))

    pub many-same : many_of r.tableau ≡ many_of t
    many-same = came-many came-slice ∙ sym many_is

    -- the output
    over-words : (w : End) → r.course ≡ over w → (before : List ℤ) →
        laid_over (many_of r.tableau) before (end_words w (k + r.count) r.tableau (many_of r.tableau))
        ≡ slice_output (some (words_of P e)) (slice_length S) before
    unfolding slice_output
    over-words w q before = rw (came-many came-slice) (ap (λ l. laid_over (vars P) before l)
        (ap (λ j. end_words w j r.tableau (vars P)) (sym total-is) ∙ told-came came-slice w q))

    -- .. and whether there is one
    abbrev Says : List ℤ → Type 0
    Says before = (is_over r.course ≡ is_answer (slice_answer S b))
        × (out_by r.course (k + r.count) r.tableau before ≡ slice_output (slice_answer S b) (slice_length S) before)

    ran_says : (before : List ℤ) → Says before
    unfolding slice_answer evidence slice_output
    ran_says before = go r.course e.how came-slice.course-is refl refl
      where
        ended-says : (w : End) → r.course ≡ over w → Ended e.how → Says before
        ended-says w q h = let z = told-ended P e.how e.pivots e.last h in (
          ap is_over q ∙ sym (ap is_answer z),
          ap (λ c. out_by c (k + r.count) r.tableau before) q ∙ over-words w q before
              ∙ sym (ap (λ a. slice_output a (slice_length S) before) z),
        )

        on-says : r.course ≡ on → Moves e.how → Says before
        on-says q h = let z = told-moves P e.how e.pivots e.last h in (
          ap is_over q ∙ sym (ap is_answer z),
          ap (λ c. out_by c (k + r.count) r.tableau before) q
              ∙ sym (ap (λ a. slice_output a (slice_length S) before) z),
        )

        go : (c : Course) (o : Outcome (ℤ × ℤ)) → CourseIs P r.tableau e.last c o → r.course ≡ c → e.how ≡ o →
            Says before
        go c o over-can q z = ended-says ends.Can q (rw z tt)
        go c o (over-cannot l y) q z = ended-says (ends.Cannot (blocked_at r.tableau l)) q (rw z tt)
        go c o over-range q z = ended-says ends.Range q (rw z tt)
        go c o (still-on x) q z = on-says q (rw z tt)

  -- ---- limits that cross

  module _ (v : Variable) (at : conflict_at t.limits (many_of t) ≡ Some v) (b : ℕ) where
    crosses : conflict pairs P ≡ some v.0
    crosses = crossing-at H.stands rowed v at

    crossed-is : spending pairs b P S.state S.count
        ≡ record {
          how = cannot (table (vars P) (same v.0)) (table (vars P) (same v.0));
          pivots = S.count;
          last = S.state;
        }
    crossed-is = spending-crossed pairs P v.0 crosses b S.state S.count

    pub crossing-seat : v.0 < most_variables
    crossing-seat = crossing-in H.stands rowed v.0 crosses

    holds-crossed : Holds (continued pairs S b) t k
    holds-crossed = continued-by b _ t k crossed-is H.stands H.ranged H.count-is

    crossed-answer : slice_answer S b ≡ some (words_of P (spending pairs b P S.state S.count))
    unfolding slice_answer
    crossed-answer = ap (told P) crossed-is ∙ told-ended P _ S.count S.state tt
        ∙ sym (ap (λ d. some (words_of P d)) crossed-is)

    crossed-says : (before : List ℤ) → (true ≡ is_answer (slice_answer S b))
        × (laid_over (many_of t) before (words_at verdicts.Cannot k (pos 0) (many_of t) (unit_at v.0) (unit_at v.0))
        ≡ slice_output (slice_answer S b) (slice_length S) before)
    unfolding slice_output
    crossed-says before = (
      sym (ap is_answer crossed-answer),
      ap₂ (λ N l. laid_over N before l) many_is
          (ap (λ j. words_at verdicts.Cannot j (pos 0) (many_of t) (unit_at v.0) (unit_at v.0)) (sym H.count-is)
          ∙ crossing-told H.stands rowed v.0 crosses b S.count)
          ∙ sym (ap (λ a. slice_output a (slice_length S) before) crossed-answer),
    )

  -- ---- both

  pub holds_more : (b : ℕ) → Holds (continued pairs S b) (spent_at t k b).tableau (spent_at t k b).count
  holds_more b = go (conflict_at t.limits (many_of t)) refl
    where
      go : (c : Option Variable) → conflict_at t.limits (many_of t) ≡ c →
          Holds (continued pairs S b) (spent_at t k b).tableau (spent_at t k b).count
      go (Some v) q = rw (spent-where true t k b (Some v) q) (holds-crossed v q b)
      go None q = rw (spent-where true t k b None q) (holds-ran q b)

  pub out-is : (b : ℕ) (before : List ℤ) → ((spent_at t k b).answered ≡ is_answer (slice_answer S b))
      × (out_at t k b before ≡ slice_output (slice_answer S b) (slice_length S) before)
  out-is b before = go (conflict_at t.limits (many_of t)) refl
    where
      go : (c : Option Variable) → conflict_at t.limits (many_of t) ≡ c →
          ((spent_at t k b).answered ≡ is_answer (slice_answer S b))
          × (out_at t k b before ≡ slice_output (slice_answer S b) (slice_length S) before)
      go (Some v) q =
          rw (spent-where true t k b (Some v) q, out-where true t k b (Some v) q before)
          (crossed-says v q b before)
      go None q =
          rw (spent-where true t k b None q, out-where true t k b None q before)
          (ran_says q b before)
