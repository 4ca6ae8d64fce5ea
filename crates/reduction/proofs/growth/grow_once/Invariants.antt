-- The rules before the index have had their turn.
use Rattle.std.proofs.Common.{take}
use Rattle.automaton.specs.Row.{rules_of}
use Rattle.reduction.specs.Inner.{Pass}
use Rattle.reduction.proofs.growth.grow_once.Given as goal

abbrev pub invariant-loop-rule : goal.invariant-loop-rule
invariant-loop-rule g l = Pass g.W.Way.adds (rules_of (take l.rule-index l.rules)) l.initial.grown.words l.grown.words
