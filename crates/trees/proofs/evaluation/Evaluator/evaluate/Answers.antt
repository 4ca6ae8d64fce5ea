use Rattle.std.proofs.Common.{length, arith, ◌∙◌}
use Rattle.std.proofs.lemmas.Result.{err_from_is_err_and}
use Rattle.records.specs.Answers.{reading_of}
use Rattle.records.specs.Read.{map_read}
use Rattle.trees.proofs.evaluation.Nodes.{number_more, room_more, walk_ends, walk_refused, walk_counts, walk_grows, walk_next}
use Rattle.trees.proofs.evaluation.Evaluator.evaluate.Goals as goal

pub step-requires : goal.step-requires
step-requires g c =
    let steps = c.in-Some.ensures.steps in
    let more = number_more _ c.args.walk.nodes c.args.b.now _ _ _ c.loop-symbol.invariant.count (steps.1.1 ∙ c.loop-symbol.invariant.pairs) steps.1.0 in
    let room = room_more _ (length c.args.walk.stack) 0 c.args.b.now _ _ _ c.loop-symbol.invariant.room (steps.1.1 ∙ c.loop-symbol.invariant.pairs) steps.1.0 in
    (omega (arith, c.requires.0), omega (arith, c.requires.1, room.0))

pub returns-in_err-walk : goal.returns-in_err-walk
unfolding reading_of map_read
returns-in_err-walk g c =
    let steps = c.in-Some.ensures.steps in
    let p = err_from_is_err_and c.from_residual.result c.from_residual.ensures.1 in
    rw (p.1, p.2)
    (walk_refused _ _ _ _ _ c.loop-symbol.invariant.left _ _ (steps.1.1 ∙ c.loop-symbol.invariant.pairs) steps.1.0 _
    (c.from.ensures ∙ c.number2.ensures) _ c.step.ensures _ c.in_err-walk.was)

pub loop-symbol-preserved : goal.loop-symbol-preserved
loop-symbol-preserved g c =
    let steps = c.in-Some.ensures.steps in
    let two = steps.1.1 ∙ c.loop-symbol.invariant.pairs in
    let more = number_more _ c.args.walk.nodes c.args.b.now _ _ _ c.loop-symbol.invariant.count two steps.1.0 in
    let counts =
    walk_counts _ _ _ _ _ c.loop-symbol.invariant.left _ _ two steps.1.0 _ (c.from.ensures ∙ c.number2.ensures) _ c.step.ensures _
    c.in_ok-walk.was in
    let grows =
    walk_grows _ _ _ _ _ c.loop-symbol.invariant.left _ _ two steps.1.0 _ (c.from.ensures ∙ c.number2.ensures) _ c.step.ensures _
    c.in_ok-walk.was in
    record {
      pairs = steps.0 ∙ c.loop-symbol.invariant.pairs;
      count = rw counts more.1;
      room = (room_more _ (length c.args.walk.stack) _ c.args.b.now _ _ _ c.loop-symbol.invariant.room two steps.1.0).1 grows;
      left = walk_next _ _ _ _ _ c.loop-symbol.invariant.left _ _ two steps.1.0 _ (c.from.ensures ∙ c.number2.ensures) _ c.step.ensures _ c.in_ok-walk.was;
    }

pub returns : goal.returns
unfolding reading_of map_read
returns g c = walk_ends _ _ _ _ _ c.loop-symbol.invariant.left (omega (arith, c.in-None.ensures.steps.1.0, c.loop-symbol.invariant.pairs))
