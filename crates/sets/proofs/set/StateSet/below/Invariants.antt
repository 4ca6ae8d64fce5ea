-- The set has the states below q.
use Rattle.std.proofs.Common.{ℕ, ltb}
use Rattle.sets.specs.Inner.{Has}
use Rattle.sets.proofs.set.StateSet.below.Given as goal

abbrev pub invariant-loop-q : goal.invariant-loop-q
invariant-loop-q l = Has l.set.words (λ (r : ℕ). ltb r l.q)
