-- `put::Writer::text` meets its contract. The invariant of its loop: the bytes that it has come past are put.
-- Assumes nothing.
use Rattle.std.proofs.Common.{take}
use Rattle.put.specs.Put.{Put}
use Rattle.put.proofs.Writer.text.Given as goal

abbrev pub invariant-loop-byte : goal.invariant-loop-byte
invariant-loop-byte l = Put l.initial.self (take l.byte-index l.text) l.self
