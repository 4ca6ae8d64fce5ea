use Rattle.trees.proofs.evaluation.NodeStates.{start_first, start_leaf}
use Rattle.trees.proofs.evaluation.start_of.Goals as goal

pub returns-in-Some : goal.returns-in-Some
returns-in-Some c = start_first _ _ _ c.in-Some.ensures.item.3.0 c.in-Some.ensures.item.1

pub returns-in-None : goal.returns-in-None
returns-in-None c = start_leaf _ _ c.in-None.ensures.item.3
