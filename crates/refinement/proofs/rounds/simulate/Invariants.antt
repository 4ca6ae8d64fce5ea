-- Each turn makes the round after one that lost a pair, and the last round lost none.
use Rattle.std.proofs.Common.{◌-◌}
use Rattle.sets.specs.Inner.{states_in}
use Rattle.automaton.specs.Row.{rules_of}
use Rattle.refinement.proofs.rounds.Going.{Going}
use Rattle.refinement.proofs.rounds.simulate.Given as goal

abbrev pub invariant-loop-next : goal.invariant-loop-next
invariant-loop-next g l =
    Going l.fn.states.words (rules_of l.rules) (states_in 256 l.fn.states.words) l.relation l.next l.changed.words l.rounds

abbrev pub decreases-loop-next : goal.decreases-loop-next
decreases-loop-next g l = 65536 - l.rounds
