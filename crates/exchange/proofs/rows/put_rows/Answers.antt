-- `exchange::rows::put_rows` meets its contract: one row more. Assumes nothing.
use Rattle.std.proofs.Common.{◌≡◌, ◌+◌, ◌*◌, ◌-◌, ◌≤◌, rules, arith, ◌∙◌, ap, drop, length, take}
use native.Mathlib.Nat.{add-zero, zero-mul}
use Rattle.std.specs.Iterator.Adapters.{enumerate_count, enumerate_source}
use Rattle.rules.specs.Exchange.Script.{row_text}
use Rattle.put.proofs.Texts.{put-lines-start, put-lines-room, put-lines-more}
use Rattle.exchange.proofs.Laws.Pieces.{chunk-inside, chunk-part, chunk-rest, row-behind, row-next, row-part, rows-end}
use Rattle.exchange.proofs.rows.put_rows.Goals as goal

pub loop-row-init : goal.loop-row-init
loop-row-init c =
    let it = c.into_iter-row-iterator.ensures.into_iter_gives in
    let none : enumerate_count c.into_iter-row-iterator.result ≡ 0 =
    ap enumerate_count it ∙ c.enumerate-row-items.ensures.count in
    let source = ap enumerate_source it ∙ c.enumerate-row-items.ensures.source in
    let ws = c.args.words.now in (
      search rules,
      search rules,
      record {
        put = rw none (put-lines-start (row_text ws) c.args.out.now);
        below = omega (arith, none);
        size = rw source c.chunks_exact.ensures.size;
        rest = rw (none, source, zero-mul, add-zero) c.chunks_exact.ensures.rest;
      },
    )

pub put_row-requires : goal.put_row-requires
put_row-requires c =
    let inv = c.loop-row.invariant.2 in
    let steps = c.in-Some.ensures.steps in
    let ws = c.args.words.now in
    let n = c.args.columns in
    let v = enumerate_count c.loop-row.row-iterator in
    let long = steps.0.1.1 ∙ inv.size in
    let b = 2 + c.args.rows * n in
    let inside = chunk-inside ws (2 + v * n) b n _ _ inv.rest steps.0.1.0 long c.requires.some_columns in
    let next = row-next n c.args.rows v c.requires.some_columns inside in
    let part = chunk-part ws (2 + v * n) b n _ _ inv.rest steps.0.1.0 long in
    rw (steps.1, part, row-part c.requires.framed v next)
    (put-lines-room (row_text ws) c.args.rows v c.requires.room inv.put next)

pub loop-row-preserved : goal.loop-row-preserved
loop-row-preserved c =
    let inv = c.loop-row.invariant.2 in
    let steps = c.in-Some.ensures.steps in
    let ws = c.args.words.now in
    let n = c.args.columns in
    let v = enumerate_count c.loop-row.row-iterator in
    let long = steps.0.1.1 ∙ inv.size in
    let b = 2 + c.args.rows * n in
    let inside = chunk-inside ws (2 + v * n) b n _ _ inv.rest steps.0.1.0 long c.requires.some_columns in
    let next = row-next n c.args.rows v c.requires.some_columns inside in
    let part = chunk-part ws (2 + v * n) b n _ _ inv.rest steps.0.1.0 long in
    let left = chunk-rest ws (2 + v * n) b n _ _ inv.rest steps.0.1.0 long in
    let line = rw (steps.1, part, row-part c.requires.framed v next) at c.put_row.ensures in (
      search rules,
      search rules,
      record {
        put = rw steps.2 (put-lines-more (row_text ws) v inv.put line);
        below = omega (arith, steps.2, next);
        size = steps.0.0 ∙ inv.size;
        rest = rw steps.2 (left ∙ ap (λ i. take (b - i) (drop i ws)) (row-behind n v));
      },
    )

pub returns : goal.returns
returns c =
    let inv = c.loop-row.invariant.2 in
    let n = c.args.columns in
    let v = enumerate_count c.loop-row.row-iterator in
    let short = rw (inv.size, inv.rest) at c.in-None.ensures.steps.0.1.0 in
    let inside : 2 + c.args.rows * n ≤ length c.args.words.now = omega (arith, c.requires.framed.exact) in
    rw (rows-end n c.args.rows v c.requires.some_columns c.args.words.now inside inv.below short) at inv.put
