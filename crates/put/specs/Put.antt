-- A text put where a writer stands. Bytes past the end of its slice are dropped, and the place counts on all the same:
-- so a text is measured by putting it into a slice that is too short.
use Rattle.std.specs.Prelude.{◌≡◌, List, ℕ, ◌+◌, ◌^◌, ◌≤◌, ◌<◌, length}
use Rattle.std.proofs.lemmas.List.Edits.{sets}
use Rattle.put.specs.declared.Writer.{Writer}

-- the writer before, the text, and the writer behind it, over the same slice
pub record Put (before : Writer) (text : List ℕ) (after : Writer) : Type 0 where
  pub same : after.out.ghost_name ≡ before.out.ghost_name
  pub bytes : after.out.now ≡ sets before.out.now before.at text
  pub place : after.at ≡ before.at + length text

-- .. and the text has at most so many bytes
pub record PutShort (most : ℕ) (before : Writer) (text : List ℕ) (after : Writer) : Type 0 where
  pub put : Put before text after
  pub short : length text ≤ most

-- the place behind the text is a number of 64 bits
pub record Room (before : Writer) (text : List ℕ) : Type 0 where
  pub room : before.at + length text < 2 ^ 64
