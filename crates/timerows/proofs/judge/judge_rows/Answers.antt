-- `timerows::judge::judge_rows` meets its contract: each test that does not apply leaves the list of tests one shorter.
-- Assumes nothing.
use Rattle.std.proofs.Common.{sym, ◌∙◌}
use Rattle.rules.proofs.Refusal.First.{first-hit, first-skip}
use Rattle.timerows.proofs.Laws.Faults.{rows-fine}
use Rattle.timerows.proofs.judge.judge_rows.Goals as goal

pub returns-then-found : goal.returns-then-found
returns-then-found c = sym (first-hit 14 _ (sym c.row_faults-found.ensures.ends ∙ c.if-found.true))

pub returns-then-found-2 : goal.returns-then-found-2
returns-then-found-2 c =
    let f = c.row_faults-found.ensures in
    sym (first-skip 14 _ (sym f.ends ∙ c.if-found.false) ∙ first-hit 15 _ (sym f.stricts ∙ c.if-found-2.true))

pub returns-then-found-3 : goal.returns-then-found-3
returns-then-found-3 c =
    let f = c.row_faults-found.ensures in
    sym (first-skip 14 _ (sym f.ends ∙ c.if-found.false) ∙ first-skip 15 _ (sym f.stricts ∙ c.if-found-2.false)
    ∙ first-hit 16 _ (sym f.lengths ∙ c.if-found-3.true))

pub returns : goal.returns
returns c = sym (rows-fine _ _ c.row_faults-found.ensures c.if-found.false c.if-found-2.false c.if-found-3.false)
