use Rattle.std.proofs.Common.{arith, refl, ◌∙◌}
use Rattle.sets.proofs.EntrySets.{entry_repeated}
use Rattle.sets.proofs.StateLoops.{states_passed, among_done}
use Rattle.refinement.proofs.rounds.Replacing.{replaced_none, replaced_more, replaced_start}
use Rattle.refinement.proofs.rounds.start.Goals as goal

pub loop-q-init : goal.loop-q-init
loop-q-init c = replaced_none _ _

pub loop-q-preserved : goal.loop-q-preserved
loop-q-preserved c = replaced_more _ _ c.args.states c.loop-q.invariant c.from.ensures (omega arith) refl

pub returns : goal.returns
returns c q h =
    let p = states_passed c.args.states.words _ _ c.states-q-items.ensures c.into_iter-q-iterator.ensures.into_iter_gives c.loop-q.yielded_by in
    replaced_start _ c.loop-q.invariant (among_done p c.in-None.ensures.steps.0) q h refl (entry_repeated 256 q _ h ∙ c.empty-rows.ensures)
