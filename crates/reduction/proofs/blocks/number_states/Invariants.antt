-- The states that were passed are numbered.
use Rattle.std.specs.Iterator.Adapters.{enumerate_source, enumerate_count}
use Rattle.sets.specs.Inner.{states_left}
use Rattle.reduction.proofs.blocks.Naming.{Numbered}
use Rattle.reduction.proofs.blocks.number_states.Given as goal

abbrev pub invariant-loop-i : goal.invariant-loop-i
invariant-loop-i l =
    goal.iterator-loop-i.can_next l.i-iterator × goal.iterator-loop-i.is_finite l.i-iterator
    × Numbered l.fn.states.words (states_left (enumerate_source l.i-iterator)) (enumerate_count l.i-iterator) l.names
