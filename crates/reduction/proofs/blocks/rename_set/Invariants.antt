-- The set has the names of the states that were passed.
use Rattle.reduction.specs.Inner.{name_in}
use Rattle.reduction.proofs.blocks.Naming.{Renames}
use Rattle.reduction.proofs.blocks.rename_set.Given as goal

abbrev pub invariant-loop-q : goal.invariant-loop-q
invariant-loop-q l = Renames (name_in l.names) l.yielded l.renamed.words
