-- Each return is one of the ways through `judge_tree`.
use Rattle.std.proofs.Common.{sym, ◌∙◌}
use Rattle.records.specs.Answers.{reading_of}
use Rattle.records.specs.Read.{map_read}
use Rattle.trees.specs.Answers.{finding_of}
use Rattle.trees.proofs.evaluation.Answering.{not_a_tree_refused, many_nodes_refused, tree_of_nodes}
use Rattle.trees.proofs.evaluation.accept_tree.Goals as goal

pub returns-then-not-is_tree : goal.returns-then-not-is_tree
unfolding finding_of reading_of map_read
returns-then-not-is_tree c = sym (not_a_tree_refused _ _ (sym c.if-not-is_tree.ensures))

pub returns-then-b-gt16384 : goal.returns-then-b-gt16384
unfolding finding_of reading_of map_read
returns-then-b-gt16384 c =
    sym (many_nodes_refused _ _ (sym c.if-not-is_tree.ensures) _ c.body-b.ensures c.if-b-gt16384.true)

pub returns : goal.returns
returns c =
    rw (← c.new.ensures.value)
    (c.accept_nodes.ensures
    ∙ sym (tree_of_nodes c.new.result _ (sym c.if-not-is_tree.ensures) _ c.body-b.ensures c.new.ensures.well_formed c.if-b-gt16384.false))
