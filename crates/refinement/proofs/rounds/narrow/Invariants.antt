-- The states that were passed are judged.
use Rattle.std.proofs.Common.{ℕ, Bool, List, [], get_or}
use Rattle.lists.specs.Lists.{any}
use Rattle.automaton.specs.Automaton.{Rule}
use Rattle.automaton.specs.Row.{rule_of, rules_of, rule_at}
use Rattle.refinement.specs.Simulation.{Relation, matched_by}
use Rattle.refinement.proofs.rounds.Narrowing.{Narrowed}
use Rattle.refinement.proofs.rounds.narrow.Given as goal

-- Some rule that the index has for a state matches u.
abbrev pub passes : Relation → Rule → List Rule → List (List ℕ) → ℕ → Bool
passes R u others index r = any (λ (j : ℕ). matched_by R u (rule_at others j)) (get_or index r [])

abbrev pub invariant-loop-r : goal.invariant-loop-r
invariant-loop-r g l = Narrowed (passes l.relation (rule_of l.rule) (rules_of l.others) l.index) l.fn.row.words l.yielded l.narrowed.words
