-- The head or the rules are refused, or what they hold is decoded.
use Rattle.std.proofs.Common.{arith, sym}
use mathlib.Core.Logic.{inl}
use Rattle.std.proofs.lemmas.List.{length-take-le}
use Rattle.std.proofs.lemmas.Result.{err_from_is_err_and}
use Rattle.lists.proofs.Elements.{all_map}
use Rattle.sets.proofs.StateSets.{listed_under}
use Rattle.records.specs.Answers.{reading_of}
use Rattle.records.specs.Read.{map_read}
use Rattle.automaton.specs.Inner.{parts_of, body_read}
use Rattle.automaton.proofs.Checked.{rules_count}
use Rattle.automaton.proofs.Encoding.{judge_well_formed}
use Rattle.automaton.proofs.table.Judging.{head_found, head_refused, rest_refused}
use Rattle.automaton.proofs.head.Bodies.{rules_read, bodies_short}
use Rattle.automaton.proofs.decoding.Filling.{none_reached, reached_refused, next_room, next_body, next_reached, all_reached, room_behind, judged}
use Rattle.automaton.proofs.decoding.decode.Goals as goal

pub returns-in_err-head : goal.returns-in_err-head
unfolding reading_of map_read
returns-in_err-head c =
    let p = err_from_is_err_and c.from_residual.result c.from_residual.ensures.1 in
    rw (p.1, p.2) (sym (head_refused c.args.t.now (sym c.in_err-head.ensures)))

pub loop-i-init : goal.loop-i-init
unfolding reading_of parts_of map_read
loop-i-init c =
    let head = head_found c.args.t.now (parts_of c.in_ok-head.head) (sym c.in_ok-head.ensures) in
    let left = c.rules.ensures.left in
    let counted = c.enumerate-i-items.ensures in
    let short = bodies_short c.in_ok-head.head.size.states c.in_ok-head.head.ranks.now c.in_ok-head.head.size.rules c.in_ok-head.head.rules.now in
    rw (c.into_iter-i-iterator.ensures.into_iter_gives, counted.source, counted.count, left)
    ((tt, tt, inl (omega (arith, short, head.count))), tt, none_reached _ _ _ (rules_read _ _ _ _) (rw left at c.rules.ensures.judged) (room_behind c.args.t.now _ _ _ _ _ head.behind head.count c.requires))

pub returns-in_err-body : goal.returns-in_err-body
unfolding reading_of parts_of map_read body_read
returns-in_err-body c =
    let p = err_from_is_err_and c.from_residual-in_err-body.result c.from_residual-in_err-body.ensures.1 in
    let next = rw c.in_err-body.was at c.in-Some.ensures.steps.0 in
    let rules = reached_refused _ _ _ _ (rw next at c.loop-i.invariant.2) in
    rw (p.1, p.2) (sym (rest_refused c.args.t.now (parts_of c.in_ok-head.head) (sym c.in_ok-head.ensures) rules))

pub read-requires : goal.read-requires
unfolding body_read
read-requires c =
    let next = rw c.in_ok-body.was at c.in-Some.ensures.steps.0 in
    next_body _ _ _ _ _ (rw next at c.loop-i.invariant.2)

pub bounds-rows-i : goal.bounds-rows-i
unfolding body_read
bounds-rows-i c =
    let next = rw c.in_ok-body.was at c.in-Some.ensures.steps.0 in
    rw c.in-Some.ensures.steps.1 (next_room _ _ _ _ _ (rw next at c.loop-i.invariant.2))

pub loop-i-preserved : goal.loop-i-preserved
unfolding body_read
loop-i-preserved c =
    let step = c.in-Some.ensures.steps in
    let next = rw c.in_ok-body.was at step.0 in (
      c.in-Some.ensures.goes.keeps,
      tt,
      rw (step.1, step.2) (next_reached _ _ _ _ _ (rw next at c.loop-i.invariant.2) _ c.read.ensures),
    )

pub set_of-requires : goal.set_of-requires
unfolding reading_of parts_of map_read
set_of-requires c =
    let head = head_found c.args.t.now (parts_of c.in_ok-head.head) (sym c.in_ok-head.ensures) in
    all_map (λ q l. omega (arith, head.states)) head.finals.states

pub slice_bounds-result-end : goal.slice_bounds-result-end
slice_bounds-result-end c =
    let ended = all_reached _ _ _ _ (rw c.in-None.ensures.steps.0.0 at c.loop-i.invariant.2) (λ us rules. rules_count _ _ _ _ rules) in
    sym (length-take-le _ _ ended.0)

pub invariant_of-result : goal.invariant_of-result
unfolding reading_of parts_of map_read
invariant_of-result c =
    let ended = all_reached _ _ _ _ (rw c.in-None.ensures.steps.0.0 at c.loop-i.invariant.2) (λ us rules. rules_count _ _ _ _ rules) in
    let head = head_found c.args.t.now (parts_of c.in_ok-head.head) (sym c.in_ok-head.ensures) in
    rw c.set_of.ensures
    (judge_well_formed c.args.t.now _ (judged c.args.t.now (parts_of c.in_ok-head.head) _ (sym c.in_ok-head.ensures) ended.1), listed_under _ _ head.finals.states)

pub returns : goal.returns
unfolding reading_of parts_of map_read
returns c =
    let ended = all_reached _ _ _ _ (rw c.in-None.ensures.steps.0.0 at c.loop-i.invariant.2) (λ us rules. rules_count _ _ _ _ rules) in
    rw c.set_of.ensures (sym (judged c.args.t.now (parts_of c.in_ok-head.head) _ (sym c.in_ok-head.ensures) ended.1))
