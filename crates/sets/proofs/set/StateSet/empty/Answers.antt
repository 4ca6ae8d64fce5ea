use Rattle.std.proofs.Common.{refl}
use Rattle.sets.specs.Set.{empty_set, words}
use Rattle.sets.proofs.set.StateSet.empty.Goals as goal

pub returns : goal.returns
unfolding empty_set words
returns c = refl
