use Rattle.std.proofs.Common.{sym}
use mathlib.Core.Bool.{or-false}
use Rattle.lists.specs.Lists.{among, any}
use Rattle.sets.proofs.StateSets.{with_more}
use Rattle.sets.proofs.set.StateSet.with_all.Goals as goal

pub loop-q-init : goal.loop-q-init
unfolding among any
loop-q-init c r b = sym (or-false _)

pub loop-q-preserved : goal.loop-q-preserved
loop-q-preserved c r b =
    rw c.insert.ensures (with_more _ _ c.args.states.now c.loop-q.q-index c.loop-q-test.true c.loop-q.invariant r b)
