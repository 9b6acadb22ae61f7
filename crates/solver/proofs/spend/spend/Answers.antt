-- `solver::spend::spend` meets its contract: limits that cross give their answer, and else the run goes on. Assumes
-- nothing.
--   crossed_by            what the search for crossed limits finds
--   state-is, out-is      what is handed back where none cross, and what stands in the output
use mathlib.Core.Bool.{Bool}
use mathlib.Core.List.{List}
use mathlib.Core.Path.{◌≡◌, ap, sym, ◌∙◌}
use Prim.Native.Nat.{ℕ, ◌+◌}
use native.Mathlib.Omega.{arith}
use lib.IntN.{ℤ, pos}
use Rattle.std.proofs.Common.{Option, Some, None}
use Rattle.tableau.specs.declared.Tableau.{Tableau}
use Rattle.tableau.specs.declared.Variable.{Variable}
use Rattle.answers.specs.declared.Verdict.TheVariants as verdicts
use Rattle.answers.specs.Conflict.{conflict_at}
use Rattle.answers.specs.Answer.{laid_over, words_at}
use Rattle.steps.specs.declared.End.{End}
use Rattle.solver.specs.Spend.{Standing, Uncrossed, course_of, crossed_since, is_over, many_of, out_as, out_by}
use Rattle.solver.specs.Spend.{ran_as, ran_by, ran_out, spent_as, spent_from}
use Rattle.solver.proofs.Laws.Running.{ran-few, ran_many, ran-tellable}
use Rattle.solver.proofs.Laws.Stands.Slices.{count-few, crossed-since, crossing-seat, few-variables, held-slice}
use Rattle.solver.proofs.Laws.Stands.Slices.{out-where, spent-where}
use Rattle.solver.proofs.spend.spend.Goals as goal

-- ---- the limits of a variable cross

-- what the search for crossed limits finds
crossed_by : {t : Tableau} {before : ℕ} {r x : Option Variable} → Standing t before →
    r ≡ crossed_since before t.limits (many_of t) → r ≡ x → conflict_at t.limits (many_of t) ≡ x
crossed_by S e q = sym (crossed-since S.holds) ∙ sym e ∙ q

pub unit-ones-requires : goal.unit-ones-requires
unit-ones-requires c = let S = c.requires.standing in
    crossing-seat S.holds c.in-Some.variable (crossed_by S c.crossed_since-crossed.ensures c.in-Some.is) c.args.most

pub write-requires : goal.write-requires
write-requires c = let H = c.requires.standing.holds in
    (c.requires.columns_in_bounds, few-variables H, count-few H)

pub returns-in-Some : goal.returns-in-Some
returns-in-Some c = let a = c.args in let v = c.in-Some.variable in
    let e = crossed_by c.requires.standing c.crossed_since-crossed.ensures c.in-Some.is in record {
      state = sym (spent-where a.look a.t a.before a.most (Some v) e);
      output = c.write.ensures
          ∙ ap (λ l. laid_over (many_of a.t) a.out.now
          (words_at verdicts.Cannot a.before (pos 0) (many_of a.t) l l)) c.unit-ones.ensures
          ∙ sym (out-where a.look a.t a.before a.most (Some v) e a.out.now);
    }

-- ---- no limits cross

pub advance-end-requires : goal.advance-end-requires
advance-end-requires c = held-slice c.requires.standing.holds

-- none does
free_by : {t : Tableau} {before : ℕ} {r : Option Variable} → Standing t before →
    r ≡ crossed_since before t.limits (many_of t) → r ≡ None → Uncrossed t
free_by S e q = crossed_by S e q

pub overflow_add-count : goal.overflow_add-count
overflow_add-count c = let a = c.args in let S = c.requires.standing in
    let free = free_by S c.crossed_since-crossed.ensures c.in_default.is in
    let z = ran-few S free a.look a.most c.advance-end.ensures in omega (arith, z)

pub tell-requires : goal.tell-requires
tell-requires c = let a = c.args in let S = c.requires.standing in let q = c.advance-end.ensures in
    let free = free_by S c.crossed_since-crossed.ensures c.in_default.is in
    let many = ran_many S free a.look a.most q in
    let room = c.requires.columns_in_bounds in record {
      tellable = ran-tellable S free a.look a.most q c.in-Some-end.end (ap course_of c.in-Some-end.is);
      columns_in_bounds = omega (arith, many, room);
    }

-- what is handed back, and what stands in the output
module _ (look : Bool) (t u : Tableau) (before most k : ℕ) (w : Option End) (free : Uncrossed t)
    (q : ran_as w k u ≡ ran_by look t most) where
  state-is : {b : Bool} → b ≡ is_over (course_of w) →
      record { answered = b; count = before + k; tableau = u } ≡ spent_as look t before most
  state-is e = ap (λ b. record { answered = b; count = before + k; tableau = u }) e ∙ ap (spent_from before) q
      ∙ sym (spent-where look t before most None free)

  out-is : {l : List ℤ} (out : List ℤ) → l ≡ out_by (course_of w) (before + k) u out → l ≡ out_as look t before most out
  out-is out e = e ∙ ap (λ r. ran_out before r out) q ∙ sym (out-where look t before most None free out)

pub returns-in-Some-end : goal.returns-in-Some-end
returns-in-Some-end c = let a = c.args in let u = c.advance-end.new.t in let r = c.advance-end.result in
    let q = c.advance-end.ensures in let e = c.in-Some-end.is in
    let free = free_by c.requires.standing c.crossed_since-crossed.ensures c.in_default.is in record {
      state = state-is a.look a.t u a.before a.most r.1 r.0 free q (sym (ap (λ w. is_over (course_of w)) e));
      output = out-is a.look a.t u a.before a.most r.1 r.0 free q a.out.now
          (c.tell.ensures ∙ ap (λ w. out_by (course_of w) (a.before + r.1) u a.out.now) (sym e));
    }

pub returns-in-None : goal.returns-in-None
returns-in-None c = let a = c.args in let u = c.advance-end.new.t in let r = c.advance-end.result in
    let q = c.advance-end.ensures in let e = c.in-None.is in
    let free = free_by c.requires.standing c.crossed_since-crossed.ensures c.in_default.is in record {
      state = state-is a.look a.t u a.before a.most r.1 r.0 free q (sym (ap (λ w. is_over (course_of w)) e));
      output = out-is a.look a.t u a.before a.most r.1 r.0 free q a.out.now
          (ap (λ w. out_by (course_of w) (a.before + r.1) u a.out.now) (sym e));
    }
