-- `wire::bytes_of` meets its contract. The invariant of its loop: the bytes of the first i words are put.
use Rattle.std.proofs.Common.{◌≡◌, take}
use Rattle.std.proofs.lemmas.List.Edits.{sets}
use Rattle.rules.specs.Program.Bytes.{bytes_from}
use Rattle.wire.proofs.bytes_of.Given as goal

abbrev pub invariant-loop-i : goal.invariant-loop-i
invariant-loop-i l = l.bytes ≡ sets l.initial.bytes l.at (bytes_from (take l.i l.words))
