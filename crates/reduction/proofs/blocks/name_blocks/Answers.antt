use Rattle.std.proofs.Common.{◌∙◌, refl, arith}
use Rattle.sets.proofs.StateLoops.{states_passed, among_done}
use Rattle.reduction.proofs.blocks.Naming.{Represents, lowered_none, lowered_more, named_none, named_more}
use Rattle.reduction.proofs.blocks.name_blocks.Goals as goal

pub loop-q-init : goal.loop-q-init
loop-q-init c = record { low = lowered_none _ refl; named = named_none _ _ }

pub loop-q-preserved : goal.loop-q-preserved
loop-q-preserved c =
    let l = c.loop-q.invariant in
    record {
      low = lowered_more _ l.low _ c.in-Some.q _ c.from.ensures (omega arith) c.representative.ensures.upper_bound;
      named = named_more _ l.low _ c.in-Some.q c.representative.result c.from.ensures (omega arith)
          (Represents c.args.relation.now) _ l.named c.representative.ensures.value;
    }

pub returns-clause-low : goal.returns-clause-low
returns-clause-low c = c.loop-q.invariant.low.low

pub returns-clause-named : goal.returns-clause-named
returns-clause-named c q h is =
    let p = states_passed c.args.states.words _ _ c.states-q-items.ensures c.into_iter-q-iterator.ensures.into_iter_gives c.loop-q.yielded_by in
    c.loop-q.invariant.named.at q h (among_done p c.in-None.ensures.steps.0 q h ∙ is)
