-- No rule gives a state where a tree belongs to none.
use Rattle.std.proofs.Common.{sym}
use Rattle.trees.proofs.evaluation.NodeStates.{no_targets_of_empty}
use Rattle.trees.proofs.evaluation.Stacks.{children_low}
use Rattle.trees.proofs.evaluation.Evaluator.states_over.Goals as goal

pub returns-then-has_empty : goal.returns-then-has_empty
returns-then-has_empty c =
    let ranked = rw (← c.self.view_is) at c.requires in
    rw (c.empty.ensures, ← c.self.view_is)
    (no_targets_of_empty _ _ _ (λ i m. children_low c.self.invariant i (ranked i m).0) ranked (sym c.if-has_empty.ensures))
