-- What is left is judged as the whole is.
use Rattle.std.proofs.Common.{◌≡◌}
use Rattle.automaton.specs.Table.{judge_rules}
use Rattle.automaton.specs.Inner.{passing, bodies_left}
use Rattle.automaton.proofs.head.Bodies.{rules_in}
use Rattle.automaton.proofs.table.judge.Given as goal

abbrev pub invariant-loop-body : goal.invariant-loop-body
invariant-loop-body l =
    goal.iterator-loop-body.can_next l.body-iterator × goal.iterator-loop-body.is_finite l.body-iterator
    × (passing (judge_rules l.head.size.states l.head.ranks.now l.head.size.rules l.head.rules.now) ≡ passing (rules_in (bodies_left l.body-iterator)))
