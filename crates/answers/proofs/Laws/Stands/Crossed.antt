-- Crossed limits by place are those of the problem, and the answer that they give.
--   crossed-joined                the test of one variable, joined without a branch
--   crossing-at, crossing-none    what the search for crossed limits says of the problem
--   crossing-told                 the words of the answer
use mathlib.Core.Bool.{Bool, cond, true, false, ◌&&◌}
use mathlib.Core.List.{◌∷◌, ◌++◌}
use mathlib.Core.Option.{Option, none, some}
use mathlib.Core.Path.{◌≡◌, ap, ap₂, refl, sym, ◌∙◌}
use Rattle.std.proofs.Common.{Some, None}
use Prim.Native.Nat.{ℕ, ◌+◌, ◌<◌}
use native.Mathlib.Omega.{arith}
use lib.IntN.{ℤ, pos}
use Rattle.whole.specs.Below.{lowest}
use Rattle.whole.specs.Values.{pairs}
use Rattle.whole.proofs.Bools.{zero_one}
use Rattle.whole.proofs.Lists.Turns.{lowest-same}
use Rattle.rules.specs.Answer.{words_of}
use Rattle.rules.specs.Limit.{lower_pair, present, upper_pair}
use Rattle.rules.specs.Problem.{Problem, mapped, vars}
use Rattle.rules.specs.Run.{conflict, crossed, spending}
use Rattle.rules.specs.Sizes.{most_variables}
use Rattle.rules.specs.Step.{State}
use Rattle.rules.proofs.Answer.Run.{crosses-exactly, spending-crossed}
use Rattle.rules.specs.Facts.State.{Rowed}
use Rattle.amounts.specs.declared.Given.{Given}
use Rattle.amounts.specs.Amounts.{given_lower, given_upper}
use Rattle.tableau.specs.declared.Tableau.{Tableau}
use Rattle.tableau.specs.declared.Variable.{Variable}
use Rattle.tableau.specs.Stands.{Stands}
use Rattle.sides.specs.Sides.{least_in, most_in}
use Rattle.search.proofs.Laws.Stands.{all-vars}
use Rattle.answers.specs.declared.Verdict.TheVariants as verdicts
use Rattle.answers.specs.Answer.{verdict_number, words_at}
use Rattle.answers.specs.Conflict.{conflict_at, crossed_from, crosses_at}
use Rattle.answers.specs.Multipliers.{unit_at}
use Rattle.answers.proofs.Laws.Stands.Halves.{units-are}

pub crossed-joined : (l u : Given) →
    ((l.on && u.on) && pairs.less (given_upper u) (given_lower l)) ≡ crossed pairs (least_in l) (most_in u)
unfolding crossed present mapped
crossed-joined l u = go l.on u.on
  where
    go : (a b : Bool) → ((a && b) && pairs.less (given_upper u) (given_lower l)) ≡ crossed pairs
        (mapped lower_pair (present a (record { plain = l.plain; strict = l.strict })))
        (mapped upper_pair (present b (record { plain = u.plain; strict = u.strict })))
    go true true = refl
    go true false = refl
    go false b = refl

module _ {P : Problem (ℤ × ℤ)} {t : Tableau} {s : State (ℤ × ℤ)} (St : Stands P t s) (R : Rowed pairs P s) where
  conflict-is : conflict_at t.limits (t.rows + t.columns) ≡ crossed_from (conflict pairs P)
  unfolding conflict_at conflict crosses_at
  conflict-is = ap (λ k. crossed_from (lowest k (crosses_at t.limits))) (all-vars P t s St R)
      ∙ ap crossed_from (lowest-same (crosses_at t.limits) _ (vars P)
      (λ v h. ap₂ (λ l u. cond (crossed pairs l u) (some v) none) (sym (St.serves.lower-is v h))
      (sym (St.serves.upper_is v h))))

  pub crossing-at : (x : Variable) → conflict_at t.limits (t.rows + t.columns) ≡ Some x →
      conflict pairs P ≡ some x.0
  unfolding crossed_from
  crossing-at x e = go (conflict pairs P) refl
    where
      go : (o : Option ℕ) → conflict pairs P ≡ o → conflict pairs P ≡ some x.0
      go none q = let f = sym conflict-is ∙ e in let g = rw q at f in let k : ◌≡◌ {A = ℕ} 0 1 = cc in zero_one k
      go (some v) q = let f = sym conflict-is ∙ e in let g = rw q at f in let k : v ≡ x.0 = cc in q ∙ ap some k

  pub crossing-none : conflict_at t.limits (t.rows + t.columns) ≡ None → conflict pairs P ≡ none
  unfolding crossed_from
  crossing-none e = go (conflict pairs P) refl
    where
      go : (o : Option ℕ) → conflict pairs P ≡ o → conflict pairs P ≡ none
      go none q = q
      go (some v) q = let f = sym conflict-is ∙ e in let g = rw q at f in let k : ◌≡◌ {A = ℕ} 0 1 = cc in zero_one k

  pub crossing-in : (v : ℕ) → conflict pairs P ≡ some v → v < most_variables
  crossing-in v e = let h = ((crosses-exactly pairs P v).0 e).0 in
      let a = St.sized.few-rows in let b = St.sized.few-columns in omega arith

  -- whatever there is to spend, k pivots on
  pub crossing-told : (v : ℕ) → conflict pairs P ≡ some v → (b k : ℕ) →
      words_at verdicts.Cannot k (pos 0) (t.rows + t.columns) (unit_at v) (unit_at v)
      ≡ words_of P (spending pairs b P s k)
  unfolding words_at verdict_number words_of
  crossing-told v e b k =
      ap (λ N. words_at verdicts.Cannot k (pos 0) N (unit_at v) (unit_at v)) (all-vars P t s St R)
      ∙ ap (λ l. pos 2 ∷ pos k ∷ pos 0 ∷ l ++ l) (units-are (vars P) v (crossing-in v e))
      ∙ sym (ap (words_of P) (spending-crossed pairs P v e b s k))
