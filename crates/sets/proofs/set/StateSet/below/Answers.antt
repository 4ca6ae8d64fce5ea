use Rattle.sets.proofs.StateSets.{below_more, none_below}
use Rattle.sets.proofs.set.StateSet.below.Goals as goal

pub loop-q-init : goal.loop-q-init
loop-q-init c r b = rw c.empty-set.ensures (none_below r b)

pub loop-q-preserved : goal.loop-q-preserved
loop-q-preserved c r b = rw c.insert.ensures (below_more _ c.loop-q.q c.loop-q.invariant r b)
