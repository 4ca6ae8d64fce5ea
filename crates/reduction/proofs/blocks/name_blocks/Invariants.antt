-- The states that were passed are named after their representatives, and no name is above its state.
use Rattle.reduction.proofs.blocks.Naming.{Lowered, Named, Represents}
use Rattle.reduction.proofs.blocks.name_blocks.Given as goal

abbrev pub invariant-loop-q : goal.invariant-loop-q
invariant-loop-q l = record { low : Lowered l.names; named : Named (Represents l.relation) l.yielded l.names }
