-- The set has the states so far, and those of the first set.
use Rattle.std.proofs.Common.{ℕ, ◌||◌, take}
use Rattle.lists.specs.Lists.{among}
use Rattle.sets.specs.Set.{member}
use Rattle.sets.specs.Inner.{Has}
use Rattle.sets.proofs.set.StateSet.with_all.Given as goal

abbrev pub invariant-loop-q : goal.invariant-loop-q
invariant-loop-q l = Has l.set.words (λ (r : ℕ). member l.fn.self.words r || among (take l.q-index l.states) r)
