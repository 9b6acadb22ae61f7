-- The bytes at the front are the next ones of the input, where these are known, and fewer than there is room for only
-- where the input ends.
use Rattle.std.specs.Prelude.{ℕ, ◌<◌, List, length, take, IfOk, Result, Option}
use Rattle.std.specs.Io.KnownBytes.{Consumes, IsAtEnd}

abbrev pub FillsFrom : {E : Type 0} → Option (List ℕ) → Option (List ℕ) → Result ℕ E → List ℕ → Type 0
FillsFrom old new r bytes = IfOk r (λ n. Consumes old new (take n bytes) × (n < length bytes → IsAtEnd new))
