-- What the contracts of inner functions cite; the call `reduce` cites none of it. Places that an array does not have, where
-- `get_or` would give its default, are ruled out by the bounds in the contracts that cite these.
use Rattle.std.specs.Prelude.{ℕ, ◌≤◌, ◌<◌, ◌≡◌, Bool, true, false, not, ◌&&◌, ◌||◌, length, get_or, ltb}
use mathlib.Core.List.{List, Memᴰ, map}
use mathlib.Core.Logic.{◌⊎◌}
use Rattle.lists.specs.Lists.{All, from, keep, any, among}
use Rattle.sets.specs.Set.{member}
use Rattle.sets.specs.Inner.{states_in}
use Rattle.automaton.specs.Automaton.{Rule}
use Rattle.automaton.specs.Row.{rule_at, rules_of}
use Rattle.refinement.specs.Simulation.{Relation}
use Rattle.stages.specs.Steps.{Stage, same_rule, dominated_by}
use Rattle.stages.specs.Inner.{Sound}
use Rattle.reduction.specs.declared.steps.Work.TheInside.{Inside}

-- The stage that is in work; its states and rules are those of a sound one.
abbrev pub stage_of : Inside → Stage
stage_of w = record { states = states_in 256 w.states.words; finals = states_in 256 w.finals.words; rules = rules_of w.rules.now }

pub record InOrder (w : Inside) : Type 0 where
  pub sound : Sound (stage_of w)
  pub few : length w.rules.now ≤ 1024

-- The new name of state q stands at place q.
unfoldable pub name_in : List ℕ → ℕ → ℕ
name_in names q = get_or names q 0

-- Mark i of some marks.
unfoldable pub marked : List Bool → ℕ → Bool
marked marks i = get_or marks i false

-- A rule u goes because of another, v: that one is equal to it and stands before it; or dominates it, wherever it stands.
unfoldable pub repeats : Relation → Rule → Rule → Bool → Bool
repeats R u v before = before && same_rule v u

unfoldable pub dominates : Relation → Rule → Rule → Bool → Bool
dominates R u v before = dominated_by R u v

-- Rule i goes because of rule j; it stays if it goes because of none.
unfoldable pub goes_at : (Relation → Rule → Rule → Bool → Bool) → Relation → List Rule → ℕ → ℕ → Bool
goes_at goes_for R rules i j = goes_for R (rule_at rules i) (rule_at rules j) (ltb j i)

unfoldable pub stays : (Relation → Rule → Rule → Bool → Bool) → Relation → List Rule → ℕ → Bool
stays goes_for R rules i = not (any (goes_at goes_for R rules i) (from 0 (length rules)))

-- The rules that stay, in order.
unfoldable pub staying : (Relation → Rule → Rule → Bool → Bool) → Relation → List Rule → List Rule
staying goes_for R rules = map (rule_at rules) (keep (stays goes_for R rules) (from 0 (length rules)))

-- A state that is final, or that a rule adds to those found before: up, without final states, the test `buildable`; down the test `needed`.
unfoldable pub grows : ((ℕ → Bool) → Rule → ℕ → Bool) → Stage → List ℕ → ℕ → Bool
grows adds S earlier q = among S.finals q || any (λ (u : Rule). adds (among earlier) u q) S.rules

-- The states below 256 that pass one test pass another.
abbrev pub Passes : (ℕ → Bool) → (ℕ → Bool) → Type 0
Passes s t = (q : ℕ) → q < 256 → s q ≡ true → t q ≡ true

-- The states that a rule names are below 256.
pub record Low (u : Rule) : Type 0 where
  pub target : u.target < 256
  pub children : All (λ (q : ℕ). q < 256) u.children

-- What a way of growing keeps to: to a larger set a rule adds no fewer states, and it adds only states that it names.
pub record Adding (adds : (ℕ → Bool) → Rule → ℕ → Bool) : Type 0 where
  pub more : (s t : ℕ → Bool) → Passes s t → (u : Rule) → Low u → (q : ℕ) → adds s u q ≡ true → adds t u q ≡ true
  pub named : (s : ℕ → Bool) (u : Rule) (q : ℕ) → adds s u q ≡ true → (q ≡ u.target) ⊎ Memᴰ q u.children

-- A pass over some rules loses no state, has what each rule adds, and has nothing else than what follows from these two.
pub record Pass (adds : (ℕ → Bool) → Rule → ℕ → Bool) (rules : List Rule) (before after : List ℕ) : Type 0 where
  pub more : Passes (member before) (member after)
  pub added : (u : Rule) → Memᴰ u rules → Passes (adds (member before) u) (member after)
  pub least : (test : ℕ → Bool) → Passes (member before) test
      → ((u : Rule) → Memᴰ u rules → Passes (adds test u) test) → Passes (member after) test
