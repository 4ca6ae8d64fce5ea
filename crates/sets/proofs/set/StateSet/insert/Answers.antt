use Rattle.std.proofs.Common.{arith, get_or, ◌<◌, ◌*◌, ◌/◌, ◌%◌, ◌^◌, ◌∙◌, length-set}
use lib.Bits.{or_lt}
use Rattle.sets.specs.Set.{with_state}
use Rattle.sets.proofs.StateSets.{bounded_put, one_bit, set_replaced}
use Rattle.sets.proofs.set.StateSet.insert.Goals as goal

pub invariant_of-self : goal.invariant_of-self
invariant_of-self c =
    let w = get_or c.args.self.now.words (c.args.q / 64) 0 in
    let p = 1 * 2 ^ (c.args.q % 64) % 18446744073709551616 in
    rw c.from.ensures (record {
      four = length-set _ _ _ ∙ c.args.self.now.four;
      bits = bounded_put _ _ _ c.args.self.now.bits (or_lt 64 w p (c.args.self.now.bits _) (omega arith));
    })

pub returns : goal.returns
unfolding with_state
returns c =
    let low : c.args.q / 64 < 4 = omega arith in
    rw (c.from.ensures, one_bit (c.args.q % 64) (omega arith)) (set_replaced _ _ _ c.args.self.now.four low)
