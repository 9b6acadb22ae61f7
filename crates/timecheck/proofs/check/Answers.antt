-- `timecheck::check` meets its contract: the refusal of the rows, then the rule of the answer's verdict. Assumes
-- nothing.
use Rattle.std.proofs.Common.{◌≡◌, ◌≢◌, refl, sym, ◌∙◌, ap, ap₂, Bool, true, false, cond, List, ℕ, zero, suc, ℤ, pos}
use Rattle.std.proofs.Common.{length, Ok, arith, rules}
use Rattle.std.proofs.lemmas.Int.{ints}
use Rattle.std.proofs.lemmas.Result.{err_from_is_err_and}
use Rattle.whole.specs.Numbers.{eq_z}
use Rattle.whole.proofs.Tells.{tells-eq_z, tells-false, tells-true}
use Rattle.refusals.proofs.Refused.{number-some}
use Rattle.refusals.specs.Numbers.{verdict_told}
use Rattle.rules.proofs.Times.Refused.{times-accepted-exactly}
use Rattle.rules.specs.Evidence.{verdict_of}
use Rattle.rules.specs.Times.Words.{AcceptedTimes, time_refusal}
use Rattle.rules.specs.Times.Check.{accepted_answer, checked_times, cycle_shown, times_shown}
use Rattle.rules.proofs.Times.Checked.{times-by-refusal, times-judged}
use Rattle.timerows.proofs.Laws.Fine.{fine_of}
use Rattle.timecheck.proofs.check.Goals as goal

kept : (ws a : List ℤ) (r : ℕ) → r ≡ time_refusal ws (length a) → r ≢ 0 → r ≡ checked_times ws a
kept ws a zero e n = absurd (n refl)
kept ws a (suc k) e n = sym (times-by-refusal ws a k (sym e))

pub returns-in_err-judge : goal.returns-in_err-judge
returns-in_err-judge c =
    let p = err_from_is_err_and c.from_residual.result c.from_residual.ensures.1 in
    rw (p.1, p.2) (kept _ _ _ c.in_err-judge.ensures (number-some _))

-- ---- the rows are accepted

module _ (ws a : List ℤ) (told : 0 ≡ time_refusal ws (length a)) where
  taken : AcceptedTimes ws (length a)
  taken = (times-accepted-exactly ws (length a)).0 (sym told)

  by-verdict : (b d : Bool) → eq_z (verdict_of a) (pos 1) ≡ b → eq_z (verdict_of a) (pos 2) ≡ d →
      checked_times ws a ≡ cond (cond b (times_shown ws a) (cond d (cycle_shown ws a) false)) 8 9
  unfolding accepted_answer
  by-verdict b d p q = times-judged ws a (sym told)
      ∙ ap₂ (λ (x y : Bool). cond (cond x (times_shown ws a) (cond y (cycle_shown ws a) false)) 8 9) p q

pub bounds-answer-0 : goal.bounds-answer-0
bounds-answer-0 c = let roomy = (taken _ _ c.in_ok-judge.ensures).roomy in omega arith

pub invariant_of-rows : goal.invariant_of-rows
invariant_of-rows c = record { fine = fine_of (taken _ _ c.in_ok-judge.ensures) }

pub shows_times-requires : goal.shows_times-requires
shows_times-requires c = (taken _ _ c.in_ok-judge.ensures).roomy

pub invariant_of-rows-in-2 : goal.invariant_of-rows-in-2
invariant_of-rows-in-2 c = record { fine = fine_of (taken _ _ c.in_ok-judge.ensures) }

pub shows_cycle-requires : goal.shows_cycle-requires
shows_cycle-requires c = (taken _ _ c.in_ok-judge.ensures).roomy

pos-apart : pos 1 ≡ pos 2 → ⊥
pos-apart e = cc

told-either : (b : Bool) → verdict_told (Ok b) ≡ cond b 8 9
told-either true = refl
told-either false = refl

pub returns-in-1 : goal.returns-in-1
returns-in-1 c =
    let a = c.args.answer.now in
    let one : verdict_of a ≡ pos 1 = search rules in
    told-either c.shows_times.result ∙ ap (λ (b : Bool). cond b 8 9) c.shows_times.ensures
    ∙ sym (by-verdict _ a c.in_ok-judge.ensures true _ (tells-true (tells-eq_z (verdict_of a) (pos 1)) one) refl)

pub returns-in-2 : goal.returns-in-2
returns-in-2 c =
    let a = c.args.answer.now in
    let two : verdict_of a ≡ pos 2 = search rules in
    let other : verdict_of a ≢ pos 1 = λ e. absurd (pos-apart (sym e ∙ two)) in
    told-either c.shows_cycle.result ∙ ap (λ (b : Bool). cond b 8 9) c.shows_cycle.ensures
    ∙ sym (by-verdict _ a c.in_ok-judge.ensures false true (tells-false (tells-eq_z (verdict_of a) (pos 1)) other)
    (tells-true (tells-eq_z (verdict_of a) (pos 2)) two))

pub returns-in_default : goal.returns-in_default
returns-in_default c =
    let a = c.args.answer.now in
    let one : verdict_of a ≢ pos 1 = λ e. absurd (search rules) in
    let two : verdict_of a ≢ pos 2 = λ e. absurd (omega (arith, ints)) in
    sym (by-verdict _ a c.in_ok-judge.ensures false false (tells-false (tells-eq_z (verdict_of a) (pos 1)) one)
    (tells-false (tells-eq_z (verdict_of a) (pos 2)) two))
