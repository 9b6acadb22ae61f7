-- The words of a run that is over are those of the rules' run.
--   came-many, told-came, tellable-came    by where a run with pivots to spend came: as many variables as the problem
-- has,                                          the words, and what writing them needs
--   last-many, told-answer, ended-tellable        the same of a run that is finished, with the answer of the rules
use mathlib.Core.List.{◌∷◌, ◌++◌}
use mathlib.Core.Path.{◌≡◌, ap, ap₂, refl, subst, sym, ◌∙◌}
use Prim.Native.Nat.{ℕ, ◌+◌, ◌*◌, ◌<◌}
use native.Mathlib.Nat.{zero-add}
use native.Mathlib.Omega.{arith}
use lib.IntN.{ℤ, pos}
use lib.ListN.{replicate, replicate-append-replicate}
use Rattle.whole.specs.Values.{pairs}
use Rattle.whole.proofs.Bools.{zero_one}
use Rattle.whole.proofs.Values.Beside.{pairs-laws}
use Rattle.rules.specs.Answer.{answer_from, words_of}
use Rattle.rules.specs.Problem.{Problem, vars}
use Rattle.rules.specs.Run.{Ending, bound, ending, most_count, run}
use Rattle.rules.specs.Step.{Outcome, State, evidence}
use Rattle.rules.proofs.Answer.Run.{spending-run}
use Rattle.rules.proofs.Termination.Bound.{below-bound, bound-small}
use Rattle.rules.proofs.Step.Leaving.{left}
use Rattle.rules.proofs.Run.State.{ready-sound}
use Rattle.rules.proofs.Run.Start.{no-conflict}
use Rattle.tableau.specs.declared.Tableau.{Tableau}
use Rattle.tableau.specs.Parts.{row_of}
use Rattle.search.specs.declared.Blocked.{Blocked}
use Rattle.search.specs.Search.{blocked_at}
use Rattle.search.proofs.Laws.Rows.{searchable}
use Rattle.search.proofs.Laws.Stands.{all-vars}
use Rattle.answers.specs.Answer.{verdict_number, words_at}
use Rattle.answers.proofs.Laws.Stands.Halves.{lowers-are, numerators-are, smalls-are, uppers-are, zeros-are}
use Rattle.steps.specs.declared.End.{End}
use Rattle.steps.specs.declared.End.TheVariants as ends
use Rattle.steps.specs.Step.{Course, over}
use Rattle.solver.specs.Run.{Finished, Startable, Tellable, end_words, words_laid}
use Rattle.solver.specs.Spend.{Ran, many_of, ran_at}
use Rattle.solver.specs.Came.{Came, CourseIs, over-can, over-cannot, over-range, still-on}
use Rattle.solver.proofs.Laws.Stands.Came.{came}
use Rattle.solver.proofs.Laws.Stands.Run.{run-goes, held-begun}
use Rattle.solver.proofs.Laws.Spends.{ran_over}

twice : (N : ℕ) (a : ℤ) → replicate N a ++ replicate N a ≡ replicate (2 * N) a
twice N a = replicate-append-replicate N N a ∙ ap (λ k. replicate k a) (let z : N + N ≡ 2 * N = omega arith in z)

module _ {P : Problem (ℤ × ℤ)} {r : Ran} {x : Ending (ℤ × ℤ)} {k : ℕ} (C : Came P r x k) where
  abbrev here : Tableau
  here = r.tableau

  abbrev at-end : State (ℤ × ℤ)
  at-end = x.last

  pub came-many : many_of here ≡ vars P
  came-many = all-vars P here at-end C.stands C.rowed

  module _ (e : End) (is-over : r.course ≡ over e) where
    abbrev total : ℕ
    total = k + r.count

    pub told-came : end_words e total here (vars P) ≡ words_of P x
    unfolding words_laid words_at verdict_number words_of evidence
    told-came = go r.course x.how C.course-is is-over
        ∙ ap (λ j. words_of P (record { how = x.how; pivots = j; last = at-end })) C.count-is
      where
        go : (c : Course) (o : Outcome (ℤ × ℤ)) → CourseIs P here at-end c o → c ≡ over e →
            end_words e total here (vars P) ≡ words_of P (record { how = o; pivots = total; last = at-end })
        go c o over-can q = let z : e ≡ ends.Can = cc in ap (λ w. end_words w total here (vars P)) z
            ∙ ap₂ (λ d l. pos 1 ∷ pos total ∷ d ∷ l) C.stands.numbers.common-is
            (ap₂ (λ y w. y ++ w) (numerators-are C.stands C.rowed) (smalls-are C.stands C.rowed))
        go c o (over-cannot l y) q = let z : e ≡ ends.Cannot (blocked_at here l) =
            cc in ap (λ w. end_words w total here (vars P)) z
            ∙ ap₂ (λ a b. pos 2 ∷ pos total ∷ pos 0 ∷ a ++ b)
            (lowers-are C.stands C.rowed l (left pairs P at-end l y))
            (uppers-are C.stands C.rowed l (left pairs P at-end l y))
        go c o over-range q = let z : e ≡ ends.Range = cc in ap (λ w. end_words w total here (vars P)) z
            ∙ ap (λ l. pos 3 ∷ pos total ∷ pos 0 ∷ l)
            (ap₂ (λ y w. y ++ w) (zeros-are (vars P)) (zeros-are (vars P)) ∙ twice (vars P) (pos 0))
        go c o (still-on s) q = let z : ◌≡◌ {A = ℕ} 0 1 = cc in zero_one z

    pub tellable-came : total < most_count → Tellable e total here
    tellable-came h = record {
      searchable = searchable P here at-end C.stands C.ranged;
      counted = h;
      row_in = λ b g. go b g r.course x.how C.course-is is-over;
    }
      where
        go : (b : Blocked) → e ≡ ends.Cannot b → (c : Course) (o : Outcome (ℤ × ℤ)) → CourseIs P here at-end c o →
            c ≡ over e → b.row.0 < here.rows
        go b g c o over-can q = let z : ◌≡◌ {A = ℕ} 0 1 = cc in zero_one z
        go b g c o (over-cannot l y) q =
            let z : row_of here l.variable ≡ b.row.0 = cc in let L = left pairs P at-end l y in
            rw (← z, C.stands.sized.rows_is)
            (C.stands.placed.has-row l.variable L.variable L.was-basic).in_rows
        go b g c o over-range q = let z : ◌≡◌ {A = ℕ} 0 1 = cc in zero_one z
        go b g c o (still-on s) q = let z : ◌≡◌ {A = ℕ} 0 1 = cc in zero_one z

-- ---- a run that is finished, from a state whose limits don't cross

module _ {t : Tableau} (S : Startable t) {e : End} {k : ℕ} {u : Tableau} (F : Finished t e k u) where
  abbrev Q : Problem (ℤ × ℤ)
  Q = S.begun.problem

  abbrev s : State (ℤ × ℤ)
  s = S.begun.state

  few : k < bound Q
  few = let A = no-conflict pairs Q S.uncrossed in
      below-bound pairs pairs-laws Q s A (ready-sound pairs Q s A S.begun.ready) S.begun.ready.seated-many k
      (run-goes (held-begun S.begun) k F.goes_on).runs

  abbrev ran : Ran
  ran = record { tableau = u; course = over e; count = k }

  ran-is : ran_at t (bound Q) ≡ ran
  ran-is = ran_over t k (bound Q) F.goes_on e (let h = few in omega arith) F.ended
      ∙ ap (λ w. record { tableau = w; course = over e; count = k }) (sym F.last)

  came-there : Came Q ran (run pairs (bound Q) Q s 0) 0
  came-there = subst (λ r. Came Q r (run pairs (bound Q) Q s 0) 0) ran-is
      (came (bound Q) 0 t s S.begun.stands S.begun.ready.rowed S.begun.ranged)

  -- as many variables as at the start
  pub last-many : many_of u ≡ many_of t
  last-many = came-many came-there ∙ sym (all-vars Q t s S.begun.stands S.begun.ready.rowed)

  pub told-answer : end_words e k u (many_of u) ≡ answer_from Q s
  unfolding answer_from ending
  told-answer = ap₂ (λ j N. end_words e j u N) (sym (zero-add k)) (came-many came-there) ∙ told-came came-there e refl
      ∙ ap (words_of Q) (sym (spending-run pairs Q S.uncrossed (bound Q) s 0))

  pub ended-tellable : Tellable e (0 + k) u
  ended-tellable = tellable-came came-there e refl
      (let h = few in let b = bound-small Q S.begun.stands.sized.few-rows
      S.begun.stands.sized.few-columns in omega arith)
