-- A pass finds at least what a time of the closure does, and a pass that adds none ends the growth.
use Rattle.std.proofs.Common.{◌≡◌}
use Rattle.lists.specs.Lists.{among}
use Rattle.sets.specs.Inner.{Has}
use Rattle.automaton.specs.Row.{rules_of}
use Rattle.stages.specs.Steps.{Stage}
use Rattle.stages.specs.Inner.{Sound}
use Rattle.reduction.proofs.growth.Growing.{Between}
use Rattle.reduction.proofs.growth.grow.Given as goal

abbrev pub invariant-loop : goal.invariant-loop
invariant-loop g l =
    (S : Stage) (sound : Sound S) → rules_of l.rules ≡ S.rules → Has l.initial.set.words (among S.finals)
    → Between g.met.W.Way.laws S sound l.counter l.set.words
