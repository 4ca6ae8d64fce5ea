-- The set has the targets of the rules before the index.
use Rattle.std.proofs.Common.{ℕ, take}
use Rattle.lists.specs.Lists.{any}
use Rattle.sets.specs.Inner.{Has}
use Rattle.trees.specs.Inner.{rule_gives, gathered}
use Rattle.trees.proofs.evaluation.Evaluator.targets.Given as goal

abbrev pub invariant-loop-i : goal.invariant-loop-i
invariant-loop-i l = Has (gathered l.spread) (λ (q : ℕ). any (rule_gives l.self.rules l.trees q) (take l.i-index l.numbers))
