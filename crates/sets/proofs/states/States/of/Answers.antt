use Rattle.std.proofs.Common.{rules, ◌≡◌, length}
use Rattle.sets.specs.Inner.{states_left}
use Rattle.sets.proofs.StateLists.{states_whole}
use Rattle.sets.proofs.states.States.of.Goals as goal

pub returns : goal.returns
unfolding states_left
returns c =
    let four : length c.args.words ≡ 4 = search rules in
    states_whole c.args.words four
