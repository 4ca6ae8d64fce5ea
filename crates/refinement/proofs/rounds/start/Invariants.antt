-- Over rows that are empty, those of the states that were passed are the states.
use Rattle.std.proofs.Common.{ℕ}
use Rattle.sets.specs.Entries.{entry_at}
use Rattle.refinement.proofs.rounds.Replacing.{Replaced}
use Rattle.refinement.proofs.rounds.start.Given as goal

abbrev pub invariant-loop-q : goal.invariant-loop-q
invariant-loop-q l = Replaced l.yielded (λ (e : ℕ). l.fn.states.words) (entry_at l.initial.rows) l.rows
