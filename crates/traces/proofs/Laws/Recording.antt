-- The run recorded for some pivots, one at a time, three words each.
--   Recording          the words so far are those of the run, whose tableau and basic variables are at hand
--   recording-start    no pivot yet
--   recording-goes     one that is not the last is made
--   recording-out      .. and no answer is written
--   recording-more     its words, by the sets before and after it, behind the others
use mathlib.Core.Bool.{Bool, cond, false}
use mathlib.Core.List.{List, ◌++◌}
use mathlib.Core.Option.{none-ne-some, none, some}
use mathlib.Core.Path.{ap, ap₂, refl, subst, sym, ◌∙◌, ◌≡◌}
use Prim.Native.Nat.{ℕ, suc, ◌%◌, ◌*◌, ◌+◌, ◌/◌, ◌<◌, ◌≤◌}
use native.Mathlib.Omega.{arith}
use lib.Dec.{eqb}
use lib.IntN.{ℤ}
use lib.ListN.{drop, length, set}
use Rattle.whole.proofs.Bools.{true-false}
use Rattle.whole.proofs.Lists.Below.{lowest-is}
use Rattle.whole.proofs.Lists.Prefix.{set-table}
use Rattle.whole.proofs.Tells.{tells-eq, tells-false, tells-true}
use Rattle.whole.specs.Tables.{table, table_from}
use Rattle.whole.specs.Values.{pairs}
use Rattle.rules.proofs.Runs.Slices.{on-way-rowed}
use Rattle.rules.specs.Facts.Runs.Slices.{cut_at}
use Rattle.rules.specs.Problem.{Problem, vars}
use Rattle.rules.specs.Run.{Ended, Moves, after, conflict, next}
use Rattle.rules.specs.Runs.Replay.{TraceStep, basis_mask}
use Rattle.rules.specs.Runs.Slices.{Slice, begun}
use Rattle.rules.specs.Runs.Trace.{run_step, step_word_at, trace_words}
use Rattle.rules.specs.Step.{Outcome, State, can, cannot, goes, range, start, step}
use Rattle.tableau.specs.declared.Tableau.{Tableau}
use Rattle.masks.specs.Masks.{gone_at, gone_from, or_zero, seats_mask, went_from}
use Rattle.solver.specs.declared.spend.Spent.{Spent}
use Rattle.solver.specs.Spend.{Holds, many_of, out_as, spent_as}
use Rattle.solver.proofs.Laws.Stands.Slices.{many_is}
use Rattle.replay.proofs.Laws.Compared.{entered-told, left-told, mask-told}
use Rattle.replay.proofs.Laws.Turn.{PivotIs, pivot-comes, pivot-crossed, pivot-goes, pivot-over, stands-mask}
use Rattle.replay.proofs.Laws.Turn.{unanswered-keeps}
use Rattle.traces.specs.Traces.{Pivots}
use Rattle.traces.proofs.Laws.Counts.{moves_before}

-- ---- the one that went

gone_one : (from to N l : ℕ) → l < N → ((v : ℕ) → went_from from to v ≡ eqb l v) → gone_from from to N ≡ l
gone_one from to N l h e = ap or_zero (lowest-is N l (gone_at from to) l h
    (by l (e l ∙ tells-true (tells-eq l l) refl))
    (λ u k. by u (e u ∙ tells-false (tells-eq l u) (λ z. let y : ⊥ = omega (arith, z, k) in y))))
  where
    by : (v : ℕ) {b : Bool} → went_from from to v ≡ b → gone_at from to v ≡ cond b (some v) none
    by v q = ap (λ b. cond b (some v) none) q

-- ---- where the run is

module _ (P : Problem (ℤ × ℤ)) where
  abbrev at : ℕ → State (ℤ × ℤ)
  at k = after pairs P (start pairs P) k

  abbrev own : ℕ → TraceStep
  own = run_step pairs P (start pairs P)

  -- the words of its trace, by their places
  abbrev word_at : ℕ → ℕ
  word_at i = step_word_at (own (i / 3)) (i % 3)

  -- k pivots on, with their words at the front of what stood there
  pub record RecordsTo (before : List ℕ) (mask : ℕ) (t : Tableau) (k : ℕ) (trace : List ℕ) : Type 0 where
    pub holds : Holds (cut_at pairs P (start pairs P) k) t k
    pub mask_is : mask ≡ basis_mask (vars P) (at k)
    pub words_are : trace ≡ trace_words k own ++ drop (3 * k) before

pub record Recording (first : Tableau) (count : ℕ) (before : List ℕ) (variables mask : ℕ) (t : Tableau) (k : ℕ)
    (trace : List ℕ) : Type 0 where
  pub pivots : Pivots first count
  pub many : many_of t ≡ variables
  pub few : k ≤ count
  pub room : 3 * count ≤ length before
  pub records : (P : Problem (ℤ × ℤ)) → Holds (begun pairs P) first 0 → RecordsTo P before mask t k trace

mask-of-state : {P : Problem (ℤ × ℤ)} {s : State (ℤ × ℤ)} {t : Tableau} {k N : ℕ} →
    Holds (record { problem = P; state = s; count = k }) t k → many_of t ≡ N →
    seats_mask t.seats N ≡ basis_mask (vars P) s
mask-of-state {t = t} H e = ap (seats_mask t.seats) (sym e ∙ many_is H) ∙ stands-mask H.stands

pub recording-start : (first : Tableau) (count : ℕ) (before : List ℕ) (mask : ℕ) → Pivots first count →
    3 * count ≤ length before → mask ≡ seats_mask first.seats (many_of first) →
    Recording first count before (many_of first) mask first 0 before
unfolding begun after table_from
recording-start first count before mask C r e = record {
  pivots = C;
  many = refl;
  few = omega arith;
  room = r;
  records = λ P H. record { holds = H; mask_is = e ∙ mask-of-state H refl; words_are = refl };
}

-- ---- one pivot more

-- the words of step k, written
abbrev with_step : List ℕ → ℕ → (out into mask : ℕ) → List ℕ
with_step l k out into mask = set (set (set l (3 * k) out) (3 * k + 1) into) (3 * k + 2) mask

clash : (o : Outcome (ℤ × ℤ)) → Moves o → Ended o → ⊥
clash can m e = m
clash (cannot ls us) m e = m
clash range m e = m
clash (goes t) m e = e

module _ {first : Tableau} {count : ℕ} {before : List ℕ} {N mask : ℕ} {t : Tableau} {k : ℕ} {trace : List ℕ}
    (R : Recording first count before N mask t k trace) where
  module _ (h : k < count) {r : Spent} (q : r ≡ spent_as false t k 1) where
    turned : {S : Slice (ℤ × ℤ)} → Holds S t k → PivotIs S k r
    turned {S} H = subst (PivotIs S k) (sym q) (pivot-comes H)

    -- it is not the last
    recording-goes : r.answered ≡ false
    recording-goes = go (turned (R.records P₀ R.pivots.holds).holds)
      where
        P₀ : Problem (ℤ × ℤ)
        P₀ = R.pivots.problem

        moves : (conflict pairs P₀ ≡ none) × Moves (step pairs P₀ (at P₀ k))
        moves = moves_before P₀ k (let z = R.pivots.count-is in omega (arith, z, h))

        go : PivotIs (cut_at pairs P₀ (start pairs P₀) k) k r → r.answered ≡ false
        go (pivot-crossed v c b) = absurd (none-ne-some v (sym moves.0 ∙ c))
        go (pivot-over c d b) = absurd (clash (step pairs P₀ (at P₀ k)) moves.1 d)
        go (pivot-goes u c z b e X) = b

    pub recording-out : {out last : List ℤ} → last ≡ out_as false t k 1 out → last ≡ out
    recording-out {out} e =
        e ∙ unanswered-keeps t k out (sym (ap (λ (x : Spent). x.answered) q) ∙ recording-goes)

    -- the next state, and its words
    record NextIs (P : Problem (ℤ × ℤ)) : Type 0 where
      pub moved_on : step pairs P (at P k) ≡ goes (at P (suc k))
      pub holds : Holds (cut_at pairs P (start pairs P) (suc k)) r.tableau (suc k)

    next-is : (P : Problem (ℤ × ℤ)) → RecordsTo P before mask t k trace → NextIs P
    unfolding after next
    next-is P T = go (turned T.holds)
      where
        go : PivotIs (cut_at pairs P (start pairs P) k) k r → NextIs P
        go (pivot-crossed v c b) = true-false b recording-goes
        go (pivot-over c d b) = true-false b recording-goes
        go (pivot-goes u c z b e X) =
            let w : at P (suc k) ≡ u = ap (next (at P k)) z in
            let j : k + 1 ≡ suc k = omega arith in record {
              moved_on = z ∙ ap goes (sym w);
              holds = subst (λ (s : State (ℤ × ℤ)).
                  Holds (record { problem = P; state = s; count = suc k }) r.tableau (suc k)) (sym w)
                  (subst (λ i. Holds (record { problem = P; state = u; count = i }) r.tableau i) j X);
            }

    recording-many : many_of r.tableau ≡ N
    recording-many = let T = R.records R.pivots.problem R.pivots.holds in
        many_is (next-is R.pivots.problem T).holds ∙ sym (many_is T.holds) ∙ R.many

    module _ {now : ℕ} (m : now ≡ seats_mask r.tableau.seats N) where
      module _ (P : Problem (ℤ × ℤ)) (H : Holds (begun pairs P) first 0) where
        T : RecordsTo P before mask t k trace
        T = R.records P H

        X : NextIs P
        X = next-is P T

        seated : length (at P k).seats ≡ vars P
        seated = (on-way-rowed _ T.holds.on-way).seats-many

        variables-are : N ≡ vars P
        variables-are = sym R.many ∙ many_is T.holds

        now-is : now ≡ basis_mask (vars P) (at P (suc k))
        now-is = m ∙ mask-of-state X.holds recording-many

        out-is : gone_from mask now N ≡ (own P k).out
        out-is = ap (λ n. gone_from mask now n) variables-are
            ∙ ap₂ (λ a b. gone_from a b (vars P)) T.mask_is now-is
            ∙ (let w = left-told pairs P (at P k) (at P (suc k)) seated X.moved_on in
            gone_one _ _ (vars P) (own P k).out w.0 w.1)

        into-is : gone_from now mask N ≡ (own P k).into
        into-is = ap (λ n. gone_from now mask n) variables-are
            ∙ ap₂ (λ a b. gone_from a b (vars P)) now-is T.mask_is
            ∙ (let w = entered-told pairs P (at P k) (at P (suc k)) seated X.moved_on in
            gone_one _ _ (vars P) (own P k).into w.0 w.1)

        basis-is : now ≡ (own P k).mask
        basis-is = now-is ∙ mask-told pairs P (at P k) (at P (suc k)) seated X.moved_on

        -- three words more
        word-is : (j : ℕ) → j < 3 → word_at P (3 * k + j) ≡ step_word_at (own P k) j
        word-is j l = ap (λ i. step_word_at (own P i) ((3 * k + j) % 3))
            (let z : (3 * k + j) / 3 ≡ k = omega arith in z)
            ∙ ap (step_word_at (own P k)) (let z : (3 * k + j) % 3 ≡ j = omega arith in z)

        one_word : (j x : ℕ) → j < 3 → x ≡ step_word_at (own P k) j →
            set (table (3 * k + j) (word_at P) ++ drop (3 * k + j) before) (3 * k + j) x
            ≡ table (3 * k + suc j) (word_at P) ++ drop (3 * k + suc j) before
        one_word j x l e = ap (set (table (3 * k + j) (word_at P) ++ drop (3 * k + j) before) (3 * k + j))
            (e ∙ sym (word-is j l))
            ∙ set-table (word_at P) 0 before (3 * k + j) (let a = R.room in omega (arith, a, h, l))
            ∙ ap (λ i. table i (word_at P) ++ drop i before) (let z : 3 * k + j + 1 ≡ 3 * k + suc j = omega arith in z)

        -- the first i words, and what stood behind them
        abbrev upto : ℕ → List ℕ
        upto i = table i (word_at P) ++ drop i before

        three-words : {a b : ℕ} → a ≡ gone_from mask now N → b ≡ gone_from now mask N →
            with_step trace k a b now ≡ upto (3 * suc k)
        three-words {a} {b} p q = ap (λ l. with_step l k a b now) T.words_are
            ∙ ap (λ i. set (set (set (upto i) i a) (3 * k + 1) b) (3 * k + 2) now)
            (let z : 3 * k ≡ 3 * k + 0 = omega arith in z)
            ∙ ap (λ l. set (set l (3 * k + 1) b) (3 * k + 2) now) (one_word 0 a (omega arith) (p ∙ out-is))
            ∙ ap (λ l. set l (3 * k + 2) now) (one_word 1 b (omega arith) (q ∙ into-is))
            ∙ one_word 2 now (omega arith) basis-is
            ∙ ap upto (let z : 3 * k + 3 ≡ 3 * suc k = omega arith in z)

      pub recording-more : {a b : ℕ} → a ≡ gone_from mask now N → b ≡ gone_from now mask N →
          Recording first count before N now r.tableau (k + 1) (with_step trace k a b now)
      recording-more {a} {b} p q = subst
          (λ j. Recording first count before N now r.tableau j (with_step trace k a b now))
          (let z : suc k ≡ k + 1 = omega arith in z) (record {
            pivots = R.pivots;
            many = recording-many;
            few = omega (arith, h);
            room = R.room;
            records = λ P H. record { holds = (X P H).holds; mask_is = now-is P H; words_are = three-words P H p q };
          })
