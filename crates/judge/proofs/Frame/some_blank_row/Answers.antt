-- `judge::Frame::some_blank_row` meets its contract: each row is asked.
use Rattle.std.proofs.Common.{◌≡◌, ◌+◌, rules, arith, ap, ◌∙◌, true, false, refl}
use Rattle.std.proofs.lemmas.Iterator.{YieldsList-from_range, cases_from_any}
use Rattle.std.proofs.lemmas.List.FromFn.{get_or-range_with_len, length-range_with_len}
use Rattle.std.specs.List.{range_with_len}
use borrow.Author.Tests.{tests}
use Rattle.whole.specs.Below.{some_below}
use Rattle.rules.specs.Refusal.{blank_row, some_blank}
use Rattle.words.proofs.Chains.{any-below}
use Rattle.judge.proofs.Frame.some_blank_row.Goals as goal

pub returns : goal.returns
unfolding some_blank
returns c =
    let ws = c.args.self.now.words.now in
    let rows = c.args.self.now.rows in
    any-below (blank_row ws) (range_with_len 0 rows) 0 rows (blank_row ws) (length-range_with_len 0 rows)
    (λ i h. ap (blank_row ws) (get_or-range_with_len 0 rows i 0 h ∙ (let z : 0 + i ≡ i = omega arith in z)))
    c.any.result
    (cases_from_any _ _ c.any.result (λ z. blank_row ws z ≡ true) (λ z. blank_row ws z ≡ false) c.any.ensures.ran
    (YieldsList-from_range 0 rows rows refl (omega arith)) (λ x q k. search (rules, tests))
    (λ x q k. search (rules, tests)))
    ∙ ap (λ k. some_below k (blank_row ws)) c.args.self.now.framed.rows_are
