-- `reader::rows::terms` meets its contract. The invariant of its loop: j coefficients are read and stand behind the
-- rows before. Assumes nothing.
use Rattle.std.proofs.Common.{◌≡◌, ◌≤◌, ◌+◌, ◌*◌, Ok}
use Rattle.reader.specs.Course.{TermsAt}
use Rattle.reader.proofs.rows.terms.Given as goal

abbrev pub invariant-loop-j : goal.invariant-loop-j
invariant-loop-j l =
    (l.j ≤ l.columns) × (l.from ≡ 2 + l.i * l.columns)
    × TermsAt l.text l.columns l.fn.counts.rows l.i l.j l.words l.blank (Ok l.next)
