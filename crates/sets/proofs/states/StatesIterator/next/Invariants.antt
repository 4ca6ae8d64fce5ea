-- Words without a state are passed.
use Rattle.std.proofs.Common.{◌≡◌, ◌-◌}
use Rattle.sets.specs.Inner.{states_left}
use Rattle.sets.proofs.states.StatesIterator.next.Given as goal

abbrev pub invariant-loop-self : goal.invariant-loop-self
invariant-loop-self l = states_left l.self ≡ states_left l.fn.self

abbrev pub decreases-loop-self : goal.decreases-loop-self
decreases-loop-self l = 3 - l.self.at
