-- One more value is written after those before it.
use Rattle.std.proofs.Common.{arith}
use Rattle.cases.proofs.Spaced.{spaced_more}
use Rattle.cases.proofs.write_spaced.Goals as goal

pub loop-value-preserved : goal.loop-value-preserved
loop-value-preserved g c =
    spaced_more g.T.Display.output c.args.values.now c.loop-value.value-index c.value-item.result _ _ _ (omega arith) c.value-item.is
    c.loop-value.invariant c.in_ok-write.ensures.bytes
