-- `tokens::value_of` meets its contract. The loop's invariant: the value is that of the bytes passed, and no larger
-- than so many bytes make it. Assumes nothing.
use Rattle.std.proofs.Common.{◌≡◌, ◌≤◌, take}
use Rattle.rules.specs.Program.Text.{reading}
use Rattle.tokens.proofs.Laws.Decimals.{most}
use Rattle.tokens.proofs.value_of.Given as goal

abbrev pub invariant-loop-byte : goal.invariant-loop-byte
invariant-loop-byte l = record {
  read : l.value ≡ reading 0 (take l.byte-index l.token);
  few : l.value ≤ most l.byte-index;
}
