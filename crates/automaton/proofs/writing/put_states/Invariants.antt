-- The states that are left are still to be written.
use Rattle.sets.specs.Inner.{states_in, states_left}
use Rattle.records.specs.Bytes.{fields}
use Rattle.records.proofs.Pens.{Left}
use Rattle.automaton.proofs.writing.put_states.Given as goal

abbrev pub invariant-loop-q : goal.invariant-loop-q
invariant-loop-q l = Left (fields (states_in 256 l.fn.set.words)) l.initial.pen l.pen (fields (states_left l.q-iterator))
