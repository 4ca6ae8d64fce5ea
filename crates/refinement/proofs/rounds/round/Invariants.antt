-- Before a rule the rows are narrowed by those of the rules before it that are touched.
use Rattle.std.proofs.Common.{ℕ, take, List}
use Rattle.automaton.specs.Row.{rules_of}
use Rattle.refinement.specs.Inner.{Roundable, Rounded, touches}
use Rattle.refinement.proofs.rounds.Underway.{narrowing}
use Rattle.refinement.proofs.rounds.round.Given as goal

abbrev pub invariant-loop-rule : goal.invariant-loop-rule
invariant-loop-rule g l =
    (states : List ℕ) → Roundable states l.relation l.initial.next (rules_of l.rules)
    → Rounded states (narrowing (touches l.changed.words) (rules_of l.others) l.relation (rules_of (take l.rule-index l.rules)))
    l.relation l.next l.lost.words
