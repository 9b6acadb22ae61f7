-- `bundle::body::rows_of` meets its contract: the edition of a file that is not refused is a small number.
use Rattle.std.proofs.Common.{arith}
use Rattle.bundle.proofs.Parts.{edition-within}
use Rattle.bundle.proofs.body.rows_of.Goals as goal

pub overflow_cast-count_at : goal.overflow_cast-count_at
overflow_cast-count_at c = omega (arith, c.count_at.ensures, edition-within c.requires.accepted)
