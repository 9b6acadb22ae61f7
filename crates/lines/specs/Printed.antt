-- A whole text in a lent slice, or none of it.
use Rattle.std.specs.Prelude.{◌≡◌, cond, List, None, Option, Some, ℕ, ◌≤◌, leb, length}
use Rattle.rules.specs.Program.Text.{printed}

-- what is answered where the slice has so many bytes
unfoldable pub bytes_told : List ℕ → ℕ → Option ℕ
bytes_told text room = cond (leb (length text) room) (Some (length text)) None

-- the answer and the slice afterwards; the text has at most so many bytes, so a slice of so many is never too short
pub record Printed (most : ℕ) (text before after : List ℕ) (r : Option ℕ) : Type 0 where
  pub short : length text ≤ most
  pub answer : r ≡ bytes_told text (length before)
  pub bytes : after ≡ printed text before
