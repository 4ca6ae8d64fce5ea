use Rattle.std.proofs.Common.{arith, ap, ◌∙◌, length-set}
use Rattle.sets.specs.Entries.{entry_at}
use Rattle.sets.proofs.EntrySets.{entry_read}
use Rattle.sets.proofs.StateLoops.{states_passed, among_done}
use Rattle.refinement.proofs.rounds.Replacing.{replaced_none, replaced_more, replaced_in, replaced_out}
use Rattle.refinement.proofs.rounds.put_back.Goals as goal

pub loop-q-init : goal.loop-q-init
loop-q-init c = (replaced_none _ _, c.told-rows)

pub loop-q-preserved : goal.loop-q-preserved
loop-q-preserved c = (
  replaced_more _ _ _ c.loop-q.invariant.0 c.from-in-loop-q.ensures (omega arith)
      (entry_read c.args.next.now _ _ (omega arith) ∙ ap (entry_at c.args.next.now) c.from.ensures),
  length-set _ _ _ ∙ c.loop-q.invariant.1,
)

pub returns-clause-changed : goal.returns-clause-changed
returns-clause-changed c q h =
    let p = states_passed c.args.changed.words _ _ c.states-q-items.ensures c.into_iter-q-iterator.ensures.into_iter_gives c.loop-q.yielded_by in
    replaced_in _ c.loop-q.invariant.0 (among_done p c.in-None.ensures.steps.0) q h

pub returns-clause-others : goal.returns-clause-others
returns-clause-others c q h =
    let p = states_passed c.args.changed.words _ _ c.states-q-items.ensures c.into_iter-q-iterator.ensures.into_iter_gives c.loop-q.yielded_by in
    replaced_out _ c.loop-q.invariant.0 (among_done p c.in-None.ensures.steps.0) q h

pub returns-clause-long : goal.returns-clause-long
returns-clause-long c = c.loop-q.invariant.1
