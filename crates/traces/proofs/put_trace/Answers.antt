-- `traces::put_trace` meets its contract: the refusals in their order, else the words of the run. Assumes nothing.
use mathlib.Core.List.{List, ◌++◌}
use mathlib.Core.Path.{◌≡◌, ap, refl, sym, ◌∙◌}
use Prim.Native.Nat.{ℕ, ◌*◌}
use native.Mathlib.Omega.{arith}
use lib.IntN.{ℤ}
use lib.ListN.{drop, length}
use Rattle.std.proofs.lemmas.Result.{err_from_is_err_and}
use Rattle.rules.specs.Problem.{inner, problem}
use Rattle.rules.specs.Refusal.{problem_refusal}
use Rattle.rules.specs.Runs.Trace.{own_step, run_count, trace_words}
use Rattle.refusals.proofs.Refused.{number-some}
use Rattle.tableau.specs.declared.Tableau.{Tableau}
use Rattle.tableau.specs.Start.{start_tableau}
use Rattle.solver.proofs.Laws.Refusals.{holds-start}
use Rattle.traces.specs.Traces.{CountsAs}
use Rattle.traces.proofs.Laws.Refusals.{traced-fine, traced-keeps, traced-problem, traced-short}
use Rattle.traces.proofs.put_trace.Goals as goal

pub returns-in_err-judge : goal.returns-in_err-judge
returns-in_err-judge c = let a = c.args in let ws = a.words.now in let room = length a.trace.now in
    let p = err_from_is_err_and c.from_residual.result c.from_residual.ensures.1 in
    let e = c.in_err-judge.ensures in
    rw (p.1, p.2) (record {
      told = traced-problem ws room _ e (number-some _);
      output = traced-keeps ws room _ (number-some _) a.trace.now;
    })

-- the words are a problem, and its pivots are counted

pub count_of-count-requires : goal.count_of-count-requires
count_of-count-requires c =
    record {
      slice = _;
      holds =
          holds-start c.args.words.now c.new-first.result c.new-first.ensures (sym c.in_ok-judge.ensures);
    }

counted : {t : Tableau} {k : ℕ} (ws : List ℤ) → t ≡ start_tableau (problem ws) → 0 ≡ problem_refusal ws → CountsAs t k →
    k ≡ run_count ws
unfolding run_count
counted ws e f h = h (inner (problem ws)) (holds-start ws _ e (sym f))

pub returns-then-trace-count : goal.returns-then-trace-count
returns-then-trace-count c = let a = c.args in let ws = a.words.now in
    let q = counted ws c.new-first.ensures c.in_ok-judge.ensures c.count_of-count.ensures in record {
      told = traced-short ws (length a.trace.now) (sym c.in_ok-judge.ensures)
          (let h = c.if-trace-count.true in omega (arith, q, h));
      output = refl;
    }

-- and there is room for all of them

pub record-requires : goal.record-requires
record-requires c = let ws = c.args.words.now in
    let h = holds-start ws c.new-first.result c.new-first.ensures (sym c.in_ok-judge.ensures) in record {
      pivots = record { problem = _; holds = h; count-is = c.count_of-count.ensures _ h };
      count_in_bounds = let l = c.if-trace-count.false in omega (arith, l);
    }

pub overflow_mul-result : goal.overflow_mul-result
overflow_mul-result c = let l = c.if-trace-count.false in omega (arith, l)

pub returns : goal.returns
returns c = let a = c.args in let ws = a.words.now in let k = c.count_of-count.result in
    let f = c.in_ok-judge.ensures in let q = counted ws c.new-first.ensures f c.count_of-count.ensures in
    let h = holds-start ws c.new-first.result c.new-first.ensures (sym f) in record {
      told = traced-fine ws (length a.trace.now) (sym f) (let l = c.if-trace-count.false in omega (arith, l, q)) k q;
      output = c.«record».ensures (inner (problem ws)) h
          ∙ ap (λ k. trace_words k (own_step ws) ++ drop (3 * k) a.trace.now) q;
    }
