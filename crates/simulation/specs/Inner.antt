-- What the contracts of inner functions cite; no call for everybody cites any of it. Places that an
-- array does not have, where `get_or` would give its default, are ruled out by the bounds in the contracts that cite these.
use Rattle.std.specs.Prelude.{ℕ, ◌<◌, ◌≡◌, List, true, false, length}
use Rattle.std.specs.List.{flat_map, sum_by}
use Rattle.std.specs.Prelude.{Option, Some, None}
use Rattle.sets.specs.Inner.{states_in, set_bytes}
use Rattle.sets.specs.declared.set.StateSet.{StateSet}
use Rattle.automaton.specs.Automaton.{Rule}
use Rattle.automaton.specs.Row.{rule_at}
use Rattle.refinement.specs.Simulation.{Relation, related}
use Rattle.refinement.specs.Inner.{answered}
use Rattle.simulation.specs.Query.{is_yes, compared_by}

-- The bytes of some rows, in order.
abbrev pub bytes_of : List StateSet → List ℕ
bytes_of rows = flat_map (λ (row : StateSet). set_bytes row.words) rows

-- How many pairs some rows hold.
abbrev pub pairs_of : List StateSet → ℕ
pairs_of rows = sum_by (λ (row : StateSet). length (states_in 256 row.words)) rows

-- Number i is the first rule of q that no rule of r matches; or there is none, and each has a match.
unfoldable pub FirstUnmatched : List Rule → Relation → ℕ → ℕ → Option ℕ → Type 0
FirstUnmatched rules R q r None = (j : ℕ) → j < length rules → answered rules R q r (rule_at rules j) ≡ true
FirstUnmatched rules R q r (Some i) = (i < length rules) × ((answered rules R q r (rule_at rules i) ≡ false)
    × ((j : ℕ) → j < i → answered rules R q r (rule_at rules j) ≡ true))

-- An answer on q and r: yes if q is related to r, and otherwise that number.
pub record ComparedBy (rules : List Rule) (R : Relation) (q r : ℕ) (answer : Option ℕ) : Type 0 where
  pub verdict : is_yes (compared_by answer) ≡ related R q r
  pub first : (i : ℕ) → answer ≡ Some i → FirstUnmatched rules R q r (Some i)
