-- The numbers from the index on and byte 10 are still to be written.
use Rattle.std.proofs.Common.{drop, [], ◌∷◌, ◌++◌}
use Rattle.records.proofs.Pens.{Left}
use Rattle.reporting.specs.Report.{numbers_in, line}
use Rattle.reporting.proofs.lines.put_line.Given as goal

abbrev pub invariant-loop-v : goal.invariant-loop-v
invariant-loop-v l = Left (line l.word l.numbers) l.fn.pen l.pen (numbers_in (drop l.v-index l.numbers) ++ (10 ∷ []))
