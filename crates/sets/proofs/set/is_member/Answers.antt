-- The code tests the bit that `member` tests.
use Rattle.std.proofs.Common.{refl}
use Rattle.sets.specs.Set.{member}
use Rattle.sets.proofs.set.is_member.Goals as goal

pub returns : goal.returns
unfolding member
returns c = rw c.from.ensures refl
