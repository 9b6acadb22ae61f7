-- `reader::read` meets its contract: the text is read into an array, and its words are copied where all of it was read
-- and they fit. Assumes nothing.
use Rattle.std.proofs.Common.{◌++◌, ◌∙◌, ap, drop, ℕ}
use Rattle.reader.proofs.Laws.Ends.{fit-answer, refused-answer, short-answer}
use Rattle.reader.proofs.read.Goals as goal

pub returns-then-out-count : goal.returns-then-out-count
returns-then-out-count c =
    let told = short-answer c.in-Ok.ensures c.args.out.now c.if-out-count.true in
    record {
      answer = ap (λ (k : ℕ). record { refused = k; count = 0 }) c.number-then-out-count.ensures ∙ told.0;
      content = told.1;
    }

pub returns-in-Err : goal.returns-in-Err
returns-in-Err c =
    let told = refused-answer c.args.text.now c.in-Err.halted c.in-Err.ensures c.args.out.now in
    record {
      answer = ap (λ (k : ℕ). record { refused = k; count = c.in-Err.halted.place }) c.number.ensures ∙ told.0;
      content = told.1;
    }

pub returns-else-out-count : goal.returns-else-out-count
returns-else-out-count c =
    let told =
    fit-answer c.in-Ok.ensures c.args.out.now _ c.if-out-count.false
    (ap (λ l. l ++ drop c.in-Ok.count c.args.out.now) c.copy_from_slice.ensures.after) in
    record { answer = told.0; content = told.1 }
