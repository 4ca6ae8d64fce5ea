use Rattle.std.proofs.Common.{refl}
use Rattle.sets.specs.Set.{words}
use Rattle.trees.specs.Inner.{gathered}
use Rattle.trees.proofs.evaluation.gathered.Goals as goal

pub returns : goal.returns
unfolding gathered words
returns c = refl
