-- `exchange::rows::put_rows` meets its contract. The invariant of its loop: the rows so far are put, and the others are
-- left. Assumes nothing.
use Rattle.std.proofs.Common.{◌≡◌, ◌+◌, ◌*◌, ◌-◌, ◌≤◌, drop, take}
use Rattle.std.specs.Slice.Iter.{chunks_exact_rest, chunks_exact_size}
use Rattle.std.specs.Iterator.Adapters.{enumerate_count, enumerate_source}
use Rattle.rules.specs.Program.Text.{lines_below}
use Rattle.rules.specs.Exchange.Script.{row_text}
use Rattle.put.specs.Put.{Put}
use Rattle.exchange.proofs.rows.put_rows.Given as goal

abbrev pub invariant-loop-row : goal.invariant-loop-row
invariant-loop-row l =
    (goal.iterator-loop-row).can_next l.row-iterator
    × (goal.iterator-loop-row).is_finite l.row-iterator
    × (record {
      put : Put l.initial.out (lines_below (enumerate_count l.row-iterator) (row_text l.words)) l.out;
      below : enumerate_count l.row-iterator ≤ l.rows;
      size : chunks_exact_size (enumerate_source l.row-iterator) ≡ l.columns;
      rest : chunks_exact_rest (enumerate_source l.row-iterator)
          ≡ take (2 + l.rows * l.columns - (2 + enumerate_count l.row-iterator * l.columns))
          (drop (2 + enumerate_count l.row-iterator * l.columns) l.words);
    })
