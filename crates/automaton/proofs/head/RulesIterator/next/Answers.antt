-- Nothing is left, or the next rule, or the last refusal comes.
use Rattle.std.proofs.Common.{◌∙◌, ap, arith, sym, length}
use borrow.Author.Tests.{eqb-true, eqb-false}
use Rattle.lists.proofs.Arrays.{part_to_end}
use Rattle.records.specs.Answers.{reading_of}
use Rattle.automaton.specs.Inner.{body_read, bodies_left, bodies}
use Rattle.automaton.proofs.head.Bodies.{none_left, next_within, next_found, next_refused}
use Rattle.automaton.proofs.head.RulesIterator.next.Goals as goal
use Rattle.automaton.proofs.head.RulesIterator.next.Goals.{else-self-eq0-via-then-self-eq0+else-is_empty, else-self-eq0-via-else-self-eq0}

pub returns-then-is_empty-clause-steps : goal.returns-then-is_empty-clause-steps
unfolding bodies_left
returns-then-is_empty-clause-steps c =
    let none = none_left _ _ _ c.args.self.now.rest.now c.if-self-eq0.true (eqb-true _ _ (sym c.is_empty.ensures ∙ c.if-is_empty.true)) in
    (none, none)

pub overflow_sub-self : goal.overflow_sub-self
unfolding reading_of
overflow_sub-self c = omega (arith, (next_within _ _ _ _ (sym c.in-Ok.ensures)).0)

pub slice_bounds-self-count : goal.slice_bounds-self-count
unfolding reading_of
slice_bounds-self-count c = (next_within _ _ _ _ (sym c.in-Ok.ensures)).1

pub slice_bounds-self-start : goal.slice_bounds-self-start
unfolding reading_of
slice_bounds-self-start c = (next_within _ _ _ _ (sym c.in-Ok.ensures)).1

pub returns-in-Ok : goal.returns-in-Ok
unfolding bodies_left body_read reading_of
returns-in-Ok c =
    let next = next_found _ _ _ _ (sym c.in-Ok.ensures) in
    record {
      steps = rw (c.body.ensures, part_to_end) next;
      goes = record { on = λ _. (tt, tt, rw part_to_end (omega (arith, ap length next))); keeps = tt; rests = λ _. tt };
    }

pub returns-in-Err : goal.returns-in-Err
unfolding bodies_left body_read reading_of bodies
returns-in-Err c =
    let next =
    next_refused _ _ _ _
    (elim c.else-self-eq0.branch [
      | else-self-eq0-via-then-self-eq0+else-is_empty w ↦ λ last empty. eqb-false _ _ (sym w.is_empty.ensures ∙ w.if-is_empty.false) empty
      | else-self-eq0-via-else-self-eq0 w ↦ λ last empty. w.if-self-eq0.false last
    ])
    (sym c.in-Err.ensures) in
    record { steps = next; goes = record { on = λ _. (tt, tt, omega (arith, ap length next)); keeps = tt; rests = λ _. tt } }
