-- What the contracts of matching, of the rounds and of the crates above cite of them; no call for everybody cites any of it. Places that an
-- array does not have, where `get_or` would give its default, are ruled out by the bounds in the contracts that cite these.
use Rattle.std.specs.Prelude.{ℕ, ◌<◌, ◌≡◌, Bool, true, false, not, ◌&&◌, ◌||◌, length, eqb}
use mathlib.Core.List.{List, Memᴰ}
use Rattle.lists.specs.Lists.{from, keep, any, all}
use Rattle.sets.specs.Set.{member}
use Rattle.sets.specs.Entries.{entry_at}
use Rattle.sets.specs.Inner.{Has}
use Rattle.sets.specs.declared.set.StateSet.{StateSet}
use Rattle.automaton.specs.Automaton.{Rule}
use Rattle.refinement.specs.Simulation.{Relation, related, matched, all_pairs}

-- The relation that 256 rows hold: row q is the set of the states that q is related to.
unfoldable pub relation_in : List StateSet → Relation
relation_in rows = keep (λ (p : ℕ × ℕ). member (entry_at rows p.0) p.1) (all_pairs (from 0 256) (from 0 256))

-- What a relation on some states is computed of: rules that name these states alone, where rules of one symbol have equally many children.
pub record Simulable (rules : List Rule) (states : List ℕ) : Type 0 where
  pub targets : (u : Rule) → Memᴰ u rules → Memᴰ u.target states
  pub children : (u : Rule) → Memᴰ u rules → (q : ℕ) → Memᴰ q u.children → Memᴰ q states
  pub arity : (u v : Rule) → Memᴰ u rules → Memᴰ v rules → u.symbol ≡ v.symbol → length u.children ≡ length v.children

-- State r is the target of a rule of symbol f.
unfoldable pub is_target : List Rule → ℕ → ℕ → Bool
is_target rules f r = any (λ (v : Rule). eqb v.symbol f && eqb v.target r) rules

-- A rule has another target than q, or a match among the others of target r; and all rules are so.
abbrev pub answered : List Rule → Relation → ℕ → ℕ → Rule → Bool
answered others R q r u = not (eqb u.target q) || matched others R r u

unfoldable pub answers : List Rule → List Rule → Relation → ℕ → ℕ → Bool
answers rules others R q r = all (answered others R q r) rules

-- A change of some rows touches a rule that has one of their states as a child.
unfoldable pub touches : List ℕ → Rule → Bool
touches changed u = any (member changed) u.children

-- A rule that is not touched has a match for each state that its target is related to.
unfoldable pub Quiet : List Rule → List Rule → Relation → (Rule → Bool) → Type 0
Quiet rules others R touched =
    (u : Rule) → Memᴰ u rules → touched u ≡ false → (r : ℕ) → related R u.target r ≡ true → matched others R r u ≡ true

-- For the states of a set the rows of a relation.
unfoldable pub Copied : List ℕ → Relation → List StateSet → Type 0
Copied states R next = (q : ℕ) → q < 256 → member states q ≡ true → Has (entry_at next q) (related R q)

-- What a round works on: rules that ask for matches, with targets in a set of states; and a copy of a relation's rows of the states in the set.
pub record Roundable (states : List ℕ) (R : Relation) (next : List StateSet) (rules : List Rule) : Type 0 where
  pub targets : (u : Rule) → Memᴰ u rules → (u.target < 256) × (member states u.target ≡ true)
  pub copied : Copied states R next

-- What a round leaves: the next relation's rows of the states in a set, where of the states of the last one's those stay that pass a test,
-- and the set of the states whose rows lost one; the other rows are the last one's.
pub record Rounded (states : List ℕ) (stays : ℕ → ℕ → Bool) (R : Relation) (next : List StateSet) (lost : List ℕ) : Type 0 where
  pub next_rows : (q : ℕ) → q < 256 → member states q ≡ true → Has (entry_at next q) (λ (r : ℕ). related R q r && stays q r)
  pub same : (q : ℕ) → q < 256 → member states q ≡ true → member lost q ≡ false → Has (entry_at next q) (related R q)
  pub fewer : (q : ℕ) → q < 256 → member lost q ≡ true → (member states q ≡ true)
      × (((r : ℕ) → r < 256 → related R q r ≡ true → member (entry_at next q) r ≡ true) → ⊥)
