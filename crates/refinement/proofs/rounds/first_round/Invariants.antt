-- The rows have met what is held for the rules before the index.
use Rattle.std.proofs.Common.{ℕ, ◌<◌, take}
use Rattle.sets.specs.Entries.{entry_at}
use Rattle.sets.specs.Inner.{Has}
use Rattle.automaton.specs.Row.{rules_of}
use Rattle.refinement.proofs.rounds.Replacing.{met}
use Rattle.refinement.proofs.rounds.first_round.Given as goal

abbrev pub invariant-loop-rule : goal.invariant-loop-rule
invariant-loop-rule l =
    (q : ℕ) → q < 256 → Has (entry_at l.rows q) (met l.holders l.initial.rows (rules_of (take l.rule-index l.rules)) q)
