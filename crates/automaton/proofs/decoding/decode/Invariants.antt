-- The rules so far are in their rows, and what is left is still to be read.
use Rattle.std.specs.Iterator.Adapters.{enumerate_source, enumerate_count}
use Rattle.automaton.specs.Table.{judge_rules}
use Rattle.automaton.specs.Inner.{bodies_left}
use Rattle.automaton.proofs.decoding.Filling.{Reached}
use Rattle.automaton.proofs.decoding.decode.Given as goal

abbrev pub invariant-loop-i : goal.invariant-loop-i
invariant-loop-i l =
    goal.iterator-loop-i.can_next l.i-iterator × goal.iterator-loop-i.is_finite l.i-iterator
    × Reached (judge_rules l.head.size.states l.head.ranks.now l.head.size.rules l.head.rules.now) l.rows (bodies_left (enumerate_source l.i-iterator))
    (enumerate_count l.i-iterator)
