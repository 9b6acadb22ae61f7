-- `tableau::read::start_nonbasic` meets its contract. Assumes nothing.
use Rattle.std.proofs.Common.{◌≡◌, rules, sym, ◌∙◌, get_or}
use Rattle.std.proofs.Math.Seq.{ext_get_or}
use Rattle.whole.proofs.Lists.Tables.{table-length, table_at}
use Rattle.rules.specs.Sizes.{most_columns}
use Rattle.tableau.specs.Parts.{variable}
use Rattle.tableau.specs.Start.{start_nonbasic}
use Rattle.tableau.proofs.read.start_nonbasic.Goals as goal

pub returns : goal.returns
returns c = ext_get_or (variable 0) c.from_fn.result start_nonbasic
    (c.from_fn.ensures.items.long ∙ sym (table-length most_columns variable))
    (λ i h. let k = rw c.from_fn.ensures.items.long at h in
    let called = (c.from_fn.ensures.items.at i (variable 0) k).2 in
    let is : get_or c.from_fn.result i (variable 0) ≡ variable i = search rules in
    is ∙ sym (table_at most_columns variable (variable 0) i k))
