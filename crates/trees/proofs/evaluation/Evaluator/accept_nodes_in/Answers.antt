-- The answer is that for what the nodes leave.
use Rattle.std.proofs.Common.{◌≡◌, length, ap, arith}
use Rattle.std.proofs.lemmas.Result.{err_from_is_err_and}
use Rattle.records.specs.Answers.{reading_of}
use Rattle.records.specs.Read.{map_read}
use Rattle.trees.specs.Answers.{finding_of}
use Rattle.trees.specs.Walk.{Walk, start}
use Rattle.trees.proofs.evaluation.Answering.{nodes_refused, walked_few, nodes_found}
use Rattle.trees.proofs.evaluation.Evaluator.accept_nodes_in.Goals as goal

pub evaluate-requires : goal.evaluate-requires
unfolding start
evaluate-requires g c =
    let begun : c.new.result.nodes ≡ 0 = ap (λ (w : Walk). w.nodes) c.new.ensures in
    let bare : length c.new.result.stack ≡ 0 = ap (λ (w : Walk). length w.stack) c.new.ensures in
    (omega arith, (omega (arith, c.requires.room.0), omega (arith, c.requires.room.1)))

pub accept_stack-requires : goal.accept_stack-requires
accept_stack-requires g c =
    (omega arith, walked_few _ _ _ (rw c.new.ensures at c.evaluate.ensures) _ c.in_ok-walk.was)

pub returns-in_err-walk : goal.returns-in_err-walk
unfolding finding_of reading_of map_read
returns-in_err-walk g c =
    let p = err_from_is_err_and c.from_residual.result c.from_residual.ensures.1 in
    rw (p.1, p.2) (nodes_refused _ _ _ (rw c.new.ensures at c.evaluate.ensures) _ c.in_err-walk.was)

pub returns : goal.returns
returns g c = nodes_found _ _ _ (rw c.new.ensures at c.evaluate.ensures) _ c.in_ok-walk.was _ c.accept_stack.ensures
