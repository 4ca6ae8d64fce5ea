-- Demand 3's words on states and rules, meant for a well-formed table: every state takes part in an accepted tree, no two different states
-- simulate each other, no rule stands twice and no rule is dominated.
use Rattle.std.specs.Prelude.{ℕ, ◌<◌, ◌≡◌, true, false}
use mathlib.Core.List.{Memᴰ}
use Rattle.lists.specs.Lists.{Distinct}
use Rattle.automaton.specs.Automaton.{Rule, Automaton}
use Rattle.trees.specs.Run.{Useful}
use Rattle.refinement.specs.Simulation.{related}
use Rattle.simulation.specs.Query.{simulation_of}
use Rattle.stages.specs.Steps.{dominated}

-- ≤ is that of the table itself.
pub record Irreducible (A : Automaton) : Type 0 where
  pub useful : (q : ℕ) → q < A.states → Useful A q
  pub antisymmetric : (q r : ℕ) → related (simulation_of A) q r ≡ true → related (simulation_of A) r q ≡ true → q ≡ r
  pub distinct : Distinct A.rules
  pub undominated : (u : Rule) → Memᴰ u A.rules → dominated (simulation_of A) A.rules u ≡ false
