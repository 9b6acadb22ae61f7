-- `search::row_value` meets its contract. The loop's invariant: the sum is that of the columns passed. The sum of at
-- most 8 products stays in 64 bits. Assumes nothing.
use Rattle.std.proofs.Common.{◌≡◌}
use Rattle.search.specs.Search.{part_sum}
use Rattle.search.proofs.row_value.Given as goal

abbrev pub invariant-loop-j : goal.invariant-loop-j
invariant-loop-j l = l.sum ≡ part_sum l.size.rows l.size.columns l.entries l.values l.row.0 l.j
