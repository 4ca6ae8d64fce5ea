-- The targets of the rules before the index are held.
use Rattle.std.proofs.Common.{ℕ, ◌<◌, take}
use Rattle.sets.specs.Entries.{entry_at}
use Rattle.sets.specs.Inner.{Has}
use Rattle.automaton.specs.Row.{rules_of}
use Rattle.refinement.specs.Inner.{is_target}
use Rattle.refinement.proofs.rounds.hold_targets.Given as goal

abbrev pub invariant-loop-rule : goal.invariant-loop-rule
invariant-loop-rule l =
    (f : ℕ) → f < 256 → Has (entry_at l.holders f) (is_target (rules_of (take l.rule-index l.others)) f)
