-- `exchange::limits::put_all_limits` meets its contract: the limits of one variable more. Assumes nothing.
use Rattle.std.proofs.Common.{◌≡◌, ◌+◌, ◌*◌, rules, arith, ◌∙◌, ◌-◌, ap, drop, length, take}
use Rattle.std.specs.Iterator.Adapters.{enumerate_count, enumerate_source}
use native.Mathlib.Nat.{add-zero}
use Rattle.rules.specs.Exchange.Script.{limits_text}
use Rattle.put.proofs.Texts.{put-lines-start, put-lines-room, put-lines-more}
use Rattle.exchange.proofs.Laws.Pieces.{chunk-inside, chunk-part, chunk-rest, limits-part}
use Rattle.exchange.proofs.limits.put_all_limits.Goals as goal

pub loop-variable-init : goal.loop-variable-init
loop-variable-init c =
    let it = c.into_iter-variable-iterator.ensures.into_iter_gives in
    let none : enumerate_count c.into_iter-variable-iterator.result ≡ 0 =
    ap enumerate_count it ∙ c.enumerate-variable-items.ensures.count in
    let source = ap enumerate_source it ∙ c.enumerate-variable-items.ensures.source in
    let ws = c.args.words.now in (
      search rules,
      search rules,
      record {
        put = rw none (put-lines-start (limits_text ws) c.args.out.now);
        below = omega (arith, none);
        size = rw source c.chunks_exact.ensures.size;
        rest = rw (none, source, add-zero) c.chunks_exact.ensures.rest;
      },
    )

pub put_limits-requires-clause-room : goal.put_limits-requires-clause-room
put_limits-requires-clause-room c =
    let inv = c.loop-variable.invariant.2 in
    let steps = c.in-Some.ensures.steps in
    let ws = c.args.words.now in
    let v = enumerate_count c.loop-variable.variable-iterator in
    let a = 2 + c.args.rows * c.args.columns + 3 * v in
    let long = steps.0.1.1 ∙ inv.size in
    let part = chunk-part ws a (length ws) 3 _ _ inv.rest steps.0.1.0 long in
    let inside = chunk-inside ws a (length ws) 3 _ _ inv.rest steps.0.1.0 long (omega arith) in
    rw (c.of.ensures, steps.1, part, limits-part c.requires.framed v)
    (put-lines-room (limits_text ws) (c.args.columns + c.args.rows) v c.requires.room inv.put
    (omega (arith, inside, c.requires.framed.exact)))

pub loop-variable-preserved : goal.loop-variable-preserved
loop-variable-preserved c =
    let inv = c.loop-variable.invariant.2 in
    let steps = c.in-Some.ensures.steps in
    let ws = c.args.words.now in
    let v = enumerate_count c.loop-variable.variable-iterator in
    let a = 2 + c.args.rows * c.args.columns + 3 * v in
    let long = steps.0.1.1 ∙ inv.size in
    let part = chunk-part ws a (length ws) 3 _ _ inv.rest steps.0.1.0 long in
    let inside = chunk-inside ws a (length ws) 3 _ _ inv.rest steps.0.1.0 long (omega arith) in
    let left = chunk-rest ws a (length ws) 3 _ _ inv.rest steps.0.1.0 long in
    let line = rw (c.of.ensures, steps.1, part, limits-part c.requires.framed v) at c.put_limits.ensures in (
      search rules,
      search rules,
      record {
        put = rw steps.2 (put-lines-more (limits_text ws) v inv.put line);
        below = omega (arith, steps.2, inside, c.requires.framed.exact);
        size = steps.0.0 ∙ inv.size;
        rest = rw steps.2 (left ∙ ap (λ i. take (length ws - i) (drop i ws)) (omega arith));
      },
    )
