-- The words, one by one.
use Rattle.std.proofs.Common.{refl}
use Rattle.sets.specs.Set.{meet_of, words}
use Rattle.sets.proofs.set.StateSet.meet.Goals as goal

pub returns : goal.returns
unfolding meet_of words
returns c = refl
