use Rattle.std.proofs.Common.{refl}
use Rattle.automaton.specs.Inner.{bodies_left}
use Rattle.automaton.proofs.head.Bodies.{bodies_judged}
use Rattle.automaton.proofs.head.Head.rules.Goals as goal

pub returns : goal.returns
unfolding bodies_left
returns c =
    let head = c.args.self.now in
    record { left = refl; judged = bodies_judged _ _ head.few.0 head.ranked.0 head.ranked.1 _ _ }
