use Rattle.std.proofs.Common.{arith, get_or, ◌<◌, ◌/◌, ◌%◌}
use Rattle.sets.specs.Set.{without_state}
use Rattle.sets.proofs.StateSets.{masked, set_replaced}
use Rattle.sets.proofs.set.StateSet.remove.Goals as goal

pub returns : goal.returns
unfolding without_state
returns c =
    let low : c.args.q / 64 < 4 = omega arith in
    rw (c.from.ensures, masked (get_or c.args.self.now.words (c.args.q / 64) 0) (c.args.q % 64) (c.args.self.now.bits _) (omega arith)) (set_replaced _ _ _ c.args.self.now.four low)
