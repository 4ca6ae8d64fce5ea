-- The set is cut to the states that the table has.
use Rattle.std.proofs.Common.{refl}
use Rattle.automaton.proofs.decoding.Cutting.{cut_states, cut_under}
use Rattle.automaton.proofs.decoding.Table.new.Goals as goal

pub below-requires : goal.below-requires
below-requires c = c.requires.states

pub invariant_of-result : goal.invariant_of-result
invariant_of-result c =
    (rw (cut_states _ _ _ _ c.below.ensures c.meet.ensures c.requires.states) c.requires, cut_under _ _ _ _ c.below.ensures c.meet.ensures)

pub returns : goal.returns
returns c = rw (cut_states _ _ _ _ c.below.ensures c.meet.ensures c.requires.states) refl
