-- The rows of the changed states that were passed are the next relation's, and there are as many rows as before.
use Rattle.std.proofs.Common.{◌≡◌, length}
use Rattle.sets.specs.Entries.{entry_at}
use Rattle.refinement.proofs.rounds.Replacing.{Replaced}
use Rattle.refinement.proofs.rounds.put_back.Given as goal

abbrev pub invariant-loop-q : goal.invariant-loop-q
invariant-loop-q l = Replaced l.yielded (entry_at l.next) (entry_at l.initial.rows) l.rows × (length l.rows ≡ 256)
