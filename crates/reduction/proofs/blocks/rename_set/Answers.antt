use Rattle.sets.proofs.StateSets.{member_empty}
use Rattle.sets.proofs.StateLoops.{states_passed, states_done}
use Rattle.lists.specs.Lists.{any}
use Rattle.reduction.specs.Inner.{name_in}
use Rattle.reduction.proofs.blocks.Naming.{renames_more}
use Rattle.reduction.proofs.blocks.rename_set.Goals as goal

pub loop-q-init : goal.loop-q-init
unfolding any
loop-q-init c r h = rw c.empty-renamed.ensures (member_empty r h)

pub loop-q-preserved : goal.loop-q-preserved
unfolding name_in
loop-q-preserved c =
    rw (c.insert.ensures, c.from.ensures) (renames_more (name_in c.args.names.now) _ _ c.in-Some.q c.loop-q.invariant)

pub returns : goal.returns
returns c =
    let p = states_passed c.args.states.words _ _ c.states-q-items.ensures c.into_iter-q-iterator.ensures.into_iter_gives c.loop-q.yielded_by in
    rw (← states_done p c.in-None.ensures.steps.0) c.loop-q.invariant
