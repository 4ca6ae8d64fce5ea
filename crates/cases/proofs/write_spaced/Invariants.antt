-- What was written is the text of the values so far.
use Rattle.std.proofs.Common.{IfSome, take}
use Rattle.std.specs.Io.KnownBytes.{Appends}
use Rattle.cases.specs.Line.{spaced}
use Rattle.cases.proofs.write_spaced.Given as goal

abbrev pub invariant-loop-value : goal.invariant-loop-value
invariant-loop-value g l = IfSome (spaced g.T.Display.output (take l.value-index l.values)) (Appends (g.W.Write.contents l.initial.out) (g.W.Write.contents l.out))
