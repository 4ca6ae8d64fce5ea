-- A turn writes the next state.
use Rattle.std.proofs.Common.{arith}
use Rattle.sets.specs.Inner.{states_left}
use Rattle.records.specs.Bytes.{bytes2, fields}
use Rattle.records.proofs.Pens.{next_fits, next_left, none_left}
use Rattle.automaton.proofs.writing.put_states.Goals as goal

pub put2-requires : goal.put2-requires
unfolding fields bytes2
put2-requires c =
    let step = c.in-Some.ensures.steps in
    let fits = next_fits c.loop-q.invariant (bytes2 c.in-Some.q) (fields (states_left c.next.new.self)) (rw step) in
    omega arith

pub loop-q-preserved : goal.loop-q-preserved
unfolding fields bytes2
loop-q-preserved c =
    let step = c.in-Some.ensures.steps in next_left c.loop-q.invariant (bytes2 c.in-Some.q) _ (rw step) (rw c.from.ensures at c.put2.ensures)

pub returns : goal.returns
unfolding fields
returns c = none_left c.loop-q.invariant (rw c.in-None.ensures.steps.0)
