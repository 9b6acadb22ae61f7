-- The words of a file that is not refused.
--   Opened    some bytes are such a file, and these are its words
--   part_at    where body i stands: its first word, and behind its last
use Rattle.std.specs.Prelude.{List, ℕ, ◌+◌, ℤ, nat_abs}
use Rattle.rules.specs.Bundle.Facts.{FileAccepted}
use Rattle.rules.specs.Bundle.File.{pair_first, pair_length}
use Rattle.bundle.specs.declared.body.Part.{Part}

pub record Opened (ws : List ℤ) : Type 0 where
  pub bytes : List ℕ
  pub accepted : FileAccepted bytes ws

unfoldable pub part_at : List ℤ → ℕ → Part
part_at ws i = record {
  first = nat_abs (pair_first ws i);
  end = nat_abs (pair_first ws i) + nat_abs (pair_length ws i);
}
