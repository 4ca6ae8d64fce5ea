-- The head is refused, or the rules behind it decide.
use Rattle.std.proofs.Common.{◌∙◌, sym, ap}
use Rattle.std.proofs.lemmas.Result.{err_from_is_err_and}
use Rattle.records.specs.Answers.{reading_of}
use Rattle.records.specs.Read.{map_read}
use Rattle.records.proofs.Reading.{map_found, map_refused}
use Rattle.automaton.specs.Decoded.{sized}
use Rattle.automaton.specs.Inner.{passing, parts_of, body_read}
use Rattle.automaton.proofs.head.Bodies.{rules_in, rules_read, one_read, one_refused}
use Rattle.automaton.proofs.table.Judging.{head_refused, rest_refused, rest_sized}
use Rattle.automaton.proofs.table.judge.Goals as goal

pub returns-in_err-head : goal.returns-in_err-head
unfolding reading_of sized map_read
returns-in_err-head c =
    let p = err_from_is_err_and c.from_residual.result c.from_residual.ensures.1 in
    rw (p.1, p.2, head_refused c.args.t.now (sym c.in_err-head.ensures))

pub loop-body-init : goal.loop-body-init
loop-body-init c = rw (c.into_iter-body-iterator.ensures.into_iter_gives, c.rules-body-items.ensures.left) (tt, tt, ap passing (rules_read _ _ _ _))

pub returns-in_err-body : goal.returns-in_err-body
unfolding reading_of sized passing parts_of map_read body_read
returns-in_err-body c =
    let p = err_from_is_err_and c.from_residual-in_err-body.result c.from_residual-in_err-body.ensures.1 in
    let next = rw c.in_err-body.was at c.in-Some.ensures.steps in
    let rules = map_refused _ _ (c.loop-body.invariant.2 ∙ ap (λ xs. passing (rules_in xs)) next ∙ ap passing (one_refused _ _)) in
    rw (p.1, p.2, rest_refused c.args.t.now (parts_of c.in_ok-head.head) (sym c.in_ok-head.ensures) rules)

pub loop-body-preserved : goal.loop-body-preserved
unfolding body_read
loop-body-preserved c =
    let next = rw c.in_ok-body.was at c.in-Some.ensures.steps in
    (tt, tt, c.loop-body.invariant.2 ∙ ap (λ xs. passing (rules_in xs)) next ∙ one_read _ _)

pub returns : goal.returns
unfolding reading_of passing parts_of map_read rules_in
returns c =
    let (rules, found, u) = map_found _ _ (c.loop-body.invariant.2 ∙ ap (λ xs. passing (rules_in xs)) c.in-None.ensures.steps.0) in
    sym (rest_sized c.args.t.now (parts_of c.in_ok-head.head) (sym c.in_ok-head.ensures) found)
