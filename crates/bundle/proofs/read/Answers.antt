-- `bundle::read` meets its contract: the lengths are taken from the pairs, and the words from behind them.
use Rattle.std.proofs.Common.{◌+◌, ◌*◌, ◌-◌, arith, sym, ◌∙◌, length, drop}
use Rattle.std.proofs.Math.ListN.{length-drop}
use Rattle.std.proofs.Math.Seq.{length-take-le}
use Rattle.refusals.proofs.Refused.{number-some}
use Rattle.whole.proofs.Numbers.Tests.{under-size}
use Rattle.rules.specs.Problem.{word}
use Rattle.rules.specs.Program.Bytes.{words_from}
use Rattle.rules.specs.Bundle.File.{editions}
use Rattle.rules.proofs.Program.Words.{words-length}
use Rattle.rules.proofs.Bundle.Exactly.{read-accepted-exactly}
use Rattle.rules.proofs.Bundle.Places.{bodies-counted, editions-few}
use Rattle.bundle.proofs.Told.{contents-fine, contents-refused, lengths-kept, lengths-told, words-kept, words-told}
use Rattle.bundle.proofs.read.Goals as goal

pub returns-in-Err-clause-told : goal.returns-in-Err-clause-told
returns-in-Err-clause-told c =
    let refused = contents-refused (words_from c.args.file.now) c.number.result _
    (c.number.ensures ∙ c.in-Err.ensures) (λ z. number-some c.in-Err.refusal (sym c.number.ensures ∙ z)) in
    cc refused

pub returns-in-Err-clause-lengths : goal.returns-in-Err-clause-lengths
returns-in-Err-clause-lengths c = lengths-kept _ _ _ (λ z. number-some c.in-Err.refusal (sym c.number.ensures ∙ z))

pub returns-in-Err-clause-words : goal.returns-in-Err-clause-words
returns-in-Err-clause-words c = words-kept _ _ _ (λ z. number-some c.in-Err.refusal (sym c.number.ensures ∙ z))

pub count_of-edition-requires : goal.count_of-edition-requires
count_of-edition-requires c = omega (arith, ((read-accepted-exactly _ _ _).0 (sym c.in_default.ensures)).0.enough)

pub count_of-bodies-requires : goal.count_of-bodies-requires
count_of-bodies-requires c = omega (arith, ((read-accepted-exactly _ _ _).0 (sym c.in_default.ensures)).0.enough)

pub take_lengths-requires : goal.take_lengths-requires
take_lengths-requires c =
    let A = (read-accepted-exactly _ _ _).0 (sym c.in_default.ensures) in (
      omega (arith, c.count_of-bodies.ensures, A.1.0),
      omega (arith, c.count_of-bodies.ensures, A.0.long, words-length c.args.file.now),
    )

pub overflow_mul-start : goal.overflow_mul-start
overflow_mul-start c =
    let A = (read-accepted-exactly _ _ _).0 (sym c.in_default.ensures) in
    omega (arith, c.count_of-bodies.ensures, bodies-counted A.0)

pub overflow_add-start : goal.overflow_add-start
overflow_add-start c =
    let A = (read-accepted-exactly _ _ _).0 (sym c.in_default.ensures) in
    omega (arith, c.count_of-bodies.ensures, bodies-counted A.0)

pub slice_bounds-words_of-count : goal.slice_bounds-words_of-count
slice_bounds-words_of-count c =
    let A = (read-accepted-exactly _ _ _).0 (sym c.in_default.ensures) in
    omega (arith, c.count_of-bodies.ensures, A.0.long, words-length c.args.file.now)

pub slice_bounds-words_of-start : goal.slice_bounds-words_of-start
slice_bounds-words_of-start c =
    let A = (read-accepted-exactly _ _ _).0 (sym c.in_default.ensures) in
    omega (arith, c.count_of-bodies.ensures, A.0.long, words-length c.args.file.now)

pub words_of-requires : goal.words_of-requires
words_of-requires c =
    let A = (read-accepted-exactly _ _ _).0 (sym c.in_default.ensures) in
    let bs = c.args.file.now in
    let start = 8 + 8 * c.count_of-bodies.result in
    omega (
      arith,
      c.count_of-bodies.ensures,
      A.1.1,
      words-length bs,
      length-take-le (length bs - start) (drop start bs) (omega (arith, length-drop start bs)),
    )

pub overflow_cast-result : goal.overflow_cast-result
overflow_cast-result c =
    let A = (read-accepted-exactly _ _ _).0 (sym c.in_default.ensures) in
    omega (
      arith,
      c.count_of-edition.ensures,
      under-size (length editions) 1 (word (words_from c.args.file.now) 0) A.0.edition-least A.0.edition-most,
      editions-few,
    )

pub returns-clause-told : goal.returns-clause-told
returns-clause-told c =
    contents-fine (words_from c.args.file.now) _ _ _ (sym c.in_default.ensures) c.count_of-edition.ensures
    c.count_of-bodies.ensures

pub returns-clause-lengths : goal.returns-clause-lengths
returns-clause-lengths c = c.take_lengths.ensures ∙ lengths-told _ _ _ c.count_of-bodies.ensures

pub returns-clause-words : goal.returns-clause-words
returns-clause-words c =
    c.words_of.ensures.content
    ∙ words-told c.args.file.now (8 + 8 * c.count_of-bodies.result) c.count_of-bodies.result c.words_of.result
    c.args.words.now (omega arith) c.count_of-bodies.ensures c.words_of.ensures.count
