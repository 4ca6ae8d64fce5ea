-- The rows of the states that were passed are copied, and those that are not full are noted.
use Rattle.std.proofs.Common.{ℕ, ◌&&◌, not}
use Rattle.lists.specs.Lists.{among}
use Rattle.sets.specs.Set.{same_set}
use Rattle.sets.specs.Entries.{entry_at}
use Rattle.sets.specs.Inner.{Has}
use Rattle.refinement.proofs.rounds.Replacing.{Replaced}
use Rattle.refinement.proofs.rounds.copy_rows.Given as goal

abbrev pub invariant-loop-q : goal.invariant-loop-q
invariant-loop-q l = record {
  copied : Replaced l.yielded (entry_at l.rows) (entry_at l.initial.next) l.next;
  noted : Has l.changed.words (λ (q : ℕ). among l.yielded q && not (same_set (entry_at l.rows q) l.states.words));
}
