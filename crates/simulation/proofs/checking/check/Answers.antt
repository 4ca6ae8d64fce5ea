-- The counts get the answer.
use Rattle.std.proofs.Common.{ap, ◌∙◌}
use Rattle.simulation.specs.Check.{counted}
use Rattle.simulation.proofs.Acceptance.{answer_acceptance}
use Rattle.simulation.proofs.checking.check.Goals as goal

pub returns : goal.returns
returns c =
    let e = c.check_tree-answer.ensures in
    let answer = answer_acceptance _ _ _ e in
    record { answer = answer; counts_after = c.with.ensures ∙ ap (counted c.args.counts) answer; subtree = e }
