-- The bytes from the index on are still to be written.
use Rattle.std.proofs.Common.{drop}
use Rattle.records.proofs.Pens.{Left}
use Rattle.automaton.proofs.writing.put_each.Given as goal

abbrev pub invariant-loop-byte : goal.invariant-loop-byte
invariant-loop-byte l = Left l.bytes l.initial.pen l.pen (drop l.byte-index l.bytes)
