-- `exchange::limits::put_all_limits` meets its contract. The invariant of its loop: the limits of the variables so far
-- are put, and those of the others are left. Assumes nothing.
use Rattle.std.proofs.Common.{◌≡◌, ◌+◌, ◌*◌, ◌-◌, ◌≤◌, drop, length, take}
use Rattle.std.specs.Slice.Iter.{chunks_exact_rest, chunks_exact_size}
use Rattle.std.specs.Iterator.Adapters.{enumerate_count, enumerate_source}
use Rattle.rules.specs.Program.Text.{lines_below}
use Rattle.rules.specs.Exchange.Script.{limits_text}
use Rattle.put.specs.Put.{Put}
use Rattle.exchange.proofs.limits.put_all_limits.Given as goal

abbrev pub invariant-loop-variable : goal.invariant-loop-variable
invariant-loop-variable l =
    (goal.iterator-loop-variable).can_next l.variable-iterator
    × (goal.iterator-loop-variable).is_finite l.variable-iterator
    × (record {
      put : Put l.initial.out (lines_below (enumerate_count l.variable-iterator) (limits_text l.words)) l.out;
      below : enumerate_count l.variable-iterator ≤ l.columns + l.rows;
      size : chunks_exact_size (enumerate_source l.variable-iterator) ≡ 3;
      rest : chunks_exact_rest (enumerate_source l.variable-iterator)
          ≡ take (length l.words - (2 + l.rows * l.columns + 3 * enumerate_count l.variable-iterator))
          (drop (2 + l.rows * l.columns + 3 * enumerate_count l.variable-iterator) l.words);
    })
