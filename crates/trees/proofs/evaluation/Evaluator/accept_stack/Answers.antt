-- On one tree the answer is that of its set; the subtree is what the walk holds.
use Rattle.std.proofs.Common.{arith, refl, sym, ap, ◌∙◌}
use Rattle.sets.specs.Set.{meet_of}
use Rattle.records.specs.Answers.{reading_of}
use Rattle.records.specs.Read.{map_read}
use Rattle.trees.specs.Answers.{finding_of, named_by}
use Rattle.trees.specs.declared.entry.Entry.{Entry}
use Rattle.trees.proofs.evaluation.Answering.{met_final, not_one_refused, one_answered, named_pointed}
use Rattle.trees.proofs.evaluation.Nodes.{nodes_in, tall_in}
use Rattle.trees.proofs.evaluation.Evaluator.accept_stack.Goals as goal

pub returns-then-walk-ne1 : goal.returns-then-walk-ne1
unfolding finding_of reading_of map_read
returns-then-walk-ne1 g c = rw (← c.walk.view_is) (not_one_refused _ _ _ _ _ c.if-walk-ne1.true)

pub shared_whole_as_slice-stack : goal.shared_whole_as_slice-stack
shared_whole_as_slice-stack g c = omega (arith, c.walk.invariant.places)

pub returns-then-not-is_empty : goal.returns-then-not-is_empty
unfolding finding_of named_by reading_of map_read
returns-then-not-is_empty g c =
    let met =
    met_final c.walk.inside.stack.now c.index-stack-0.result c.finals.result c.meet.result (omega (arith, c.walk.invariant.room)) c.index-stack-0.is
    (c.meet.ensures ∙ ap (λ (t : Entry). meet_of t.states.words c.finals.result.words) (sym c.index-stack-0.is)) in
    rw (← c.self.view_is, ← c.walk.view_is)
    (sym (one_answered _ _ _ _ _ _ c.finals.ensures c.if-walk-ne1.false
    ∙ rw (← met, ← c.if-not-is_empty.ensures) refl))

pub overflow_sub-whole : goal.overflow_sub-whole
overflow_sub-whole g c =
    let nodes = nodes_in _ _ _ _ _ c.walk.view_is in
    let tall = tall_in _ _ _ _ _ c.walk.view_is in
    omega (arith, c.requires, c.if-walk-ne1.false)

pub returns : goal.returns
unfolding finding_of named_by reading_of map_read
returns g c =
    let met =
    met_final c.walk.inside.stack.now c.index-stack-0.result c.finals.result c.meet.result (omega (arith, c.walk.invariant.room)) c.index-stack-0.is
    (c.meet.ensures ∙ ap (λ (t : Entry). meet_of t.states.words c.finals.result.words) (sym c.index-stack-0.is)) in
    rw (← c.self.view_is, ← c.walk.view_is)
    (sym (one_answered _ _ _ _ _ _ c.finals.ensures c.if-walk-ne1.false
    ∙ rw (← met, ← c.if-not-is_empty.ensures, named_pointed c.walk.inside.first c.walk.inside.nodes _ c.unwrap_or.ensures) refl))
