-- `tokens::is_decimal` meets its contract. The loop's invariant: the bytes left are the digits of `rest` exactly where
-- the token's are those of `value`. The measure is how many bytes are left. Assumes nothing.
use Rattle.std.proofs.Common.{◌≡◌, length}
use Rattle.rules.specs.Program.Text.{digits}
use Rattle.rules.specs.Exchange.Reader.{same_bytes}
use Rattle.tokens.proofs.is_decimal.Given as goal

abbrev pub invariant-loop-left : goal.invariant-loop-left
invariant-loop-left l = same_bytes (digits l.value) l.token ≡ same_bytes (digits l.rest) l.left

abbrev pub decreases-loop-left : goal.decreases-loop-left
decreases-loop-left l = length l.left
