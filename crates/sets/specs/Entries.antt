-- Sets of states, one after the other.
use Rattle.std.specs.Prelude.{ℕ, List, map, get_or}
use Rattle.sets.specs.Set.{empty_set}
use Rattle.sets.specs.declared.set.StateSet.{StateSet}

-- The words of set e of some sets; the empty set where there is none.
unfoldable pub entry_at : List StateSet → ℕ → List ℕ
entry_at sets e = get_or (map (λ (set : StateSet). set.words) sets) e empty_set
