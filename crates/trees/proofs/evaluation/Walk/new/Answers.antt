use Rattle.std.proofs.Common.{arith, refl}
use Rattle.trees.specs.Subtree.{first_of}
use Rattle.trees.specs.Walk.{start}
use Rattle.trees.specs.Inner.{walk_in, stack_by, ConsecutiveBy}
use Rattle.trees.proofs.evaluation.Walk.new.Goals as goal

pub invariant_of-result : goal.invariant_of-result
unfolding ConsecutiveBy
invariant_of-result g c = record { places = c.requires; room = omega arith; consecutive = refl }

pub returns : goal.returns
unfolding start walk_in stack_by first_of
returns g c = refl
