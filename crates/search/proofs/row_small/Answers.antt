-- `search::row_small` meets its contract: where no limit is strict the sum is of zeros. Assumes nothing.
use mathlib.Core.Path.{sym}
use native.Mathlib.Omega.{arith}
use Rattle.whole.proofs.Numbers.Sizes.{within-le}
use Rattle.search.proofs.Laws.Sums.{row-nothing}
use Rattle.search.proofs.row_small.Goals as goal

pub returns-then-not-strict : goal.returns-then-not-strict
returns-then-not-strict c = let a = c.args in
    sym (row-nothing a.size.rows a.size.columns a.entries.now a.smalls.now a.row.0
    (c.requires.pos_value c.if-not-strict.true) a.size.columns)

pub row_value-requires : goal.row_value-requires
row_value-requires c = record {
  rows_le_most_rows = c.requires.rows_le_most_rows;
  by_index = c.requires.by_index;
  by_index_2 = λ j. within-le (c.requires.by_index_2 j) (omega arith);
}
