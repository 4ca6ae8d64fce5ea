-- The six steps of reduction, in document 01's order. States keep their numbers until the last step: a block (document 01: "group") goes by
-- its smallest member, its representative, so that the representatives stand in the order of the blocks.
use Rattle.std.specs.Prelude.{ℕ, zero, suc, List, [], ◌∷◌, map, length, Bool, true, false, not, cond, ◌&&◌, ◌||◌, eqb}
use Rattle.lists.specs.Lists.{all, from, keep, any, among}
use Rattle.automaton.specs.Automaton.{Automaton, Rule, renamed}
use Rattle.refinement.specs.Simulation.{Relation, related, matched_by, relation, rounds}

-- An automaton in work: the states that are left, the final ones among them, and the rules between them.
pub record Stage : Type 0 where
  pub states : List ℕ
  pub finals : List ℕ
  pub rules : List Rule

-- The states found by a test that looks at the states found before, repeatedly, from none on. The tests of steps 1 and 5 pass no fewer
-- states when more were found before: each time finds what the time before did, and once one finds no more, no later one does. So as many
-- times as there are states suffice.
unfoldable pub found_in : (List ℕ → ℕ → Bool) → List ℕ → ℕ → List ℕ
found_in test states zero = []
found_in test states (suc times) = keep (test (found_in test states times)) states

unfoldable pub closure : (List ℕ → ℕ → Bool) → List ℕ → List ℕ
closure test states = found_in test states (length states)

-- Step 1: drop states to which no tree belongs, and each rule that names one. A tree belongs to the target of a rule exactly if trees
-- belong to its children; the theorem `productive_trees` says that what is found so are the states to which a tree belongs.
unfoldable pub buildable : List Rule → List ℕ → ℕ → Bool
buildable rules earlier q = any (λ (u : Rule). eqb u.target q && all (among earlier) u.children) rules

unfoldable pub productive : Automaton → List ℕ
productive A = closure (buildable A.rules) (from 0 A.states)

unfoldable pub names_only : List ℕ → Rule → Bool
names_only states u = among states u.target && all (among states) u.children

unfoldable pub trimmed : Automaton → Stage
trimmed A = record {
  states = productive A;
  finals = keep (among (productive A)) A.finals;
  rules = keep (names_only (productive A)) A.rules;
}

-- Step 2: compute ≤ on the remainder.
unfoldable pub below : Stage → Relation
below S = relation S.rules S.states

unfoldable pub rounds_in : Stage → ℕ
rounds_in S = rounds S.rules S.states

-- Step 3: the states that are ≤ each other form a block; number blocks by smallest member. Rewrite rules and final states, these in order
-- and each once; of equal rules the first stays. Between blocks ≤ is that of any members: here, of the representatives.
unfoldable pub equivalent : Relation → ℕ → ℕ → Bool
equivalent R q r = related R q r && related R r q

-- The first state that passes a test. A state that is left is equivalent to itself (≤ is reflexive on the states that are left), so a
-- representative is always found and the 0 of the empty list is none (theorem `representative_equivalent`).
unfoldable pub first_of : (ℕ → Bool) → List ℕ → ℕ
first_of test [] = 0
first_of test (q ∷ qs) = cond (test q) q (first_of test qs)

unfoldable pub representative : Relation → List ℕ → ℕ → ℕ
representative R states q = first_of (equivalent R q) states

unfoldable pub same_states : List ℕ → List ℕ → Bool
same_states [] [] = true
same_states [] (r ∷ rs) = false
same_states (q ∷ qs) [] = false
same_states (q ∷ qs) (r ∷ rs) = eqb q r && same_states qs rs

unfoldable pub same_rule : Rule → Rule → Bool
same_rule u v = eqb u.symbol v.symbol && (eqb u.target v.target && same_states u.children v.children)

unfoldable pub firsts : List Rule → List Rule
firsts [] = []
firsts (u ∷ us) = u ∷ keep (λ (v : Rule). not (same_rule u v)) (firsts us)

unfoldable pub quotient : Relation → Stage → Stage
quotient R S = record {
  states = keep (λ (q : ℕ). eqb (representative R S.states q) q) S.states;
  finals = keep (λ (q : ℕ). any (λ (f : ℕ). eqb (representative R S.states f) q) S.finals) S.states;
  rules = firsts (map (renamed (representative R S.states)) S.rules);
}

-- Step 4: a rule is dominated (document 01: "outdone") by another of the same symbol and target if each of its children is ≤ the other's
-- and at least one differs. Drop together all rules dominated among those of step 3.
unfoldable pub dominated_by : Relation → Rule → Rule → Bool
dominated_by R u v = eqb u.target v.target && (matched_by R u v && not (same_states u.children v.children))

unfoldable pub dominated : Relation → List Rule → Rule → Bool
dominated R rules u = any (dominated_by R u) rules

unfoldable pub pruned : Relation → Stage → Stage
pruned R S = record {
  states = S.states;
  finals = S.finals;
  rules = keep (λ (u : Rule). not (dominated R S.rules u)) S.rules;
}

-- Step 5: keep final blocks and, repeatedly, the children of rules whose target is kept. Drop the remaining blocks with their rules. All
-- final blocks stay, and so do all children of the rules that stay.
unfoldable pub needed : Stage → List ℕ → ℕ → Bool
needed S earlier q = among S.finals q || any (λ (u : Rule). among earlier u.target && among u.children q) S.rules

unfoldable pub kept : Stage → List ℕ
kept S = closure (needed S) S.states

unfoldable pub restricted : Stage → Stage
restricted S = record {
  states = kept S;
  finals = S.finals;
  rules = keep (λ (u : Rule). among (kept S) u.target) S.rules;
}

-- Step 6: number the kept blocks in order: n and k new, m and ranks old, rules in their old order. A kept block's number is where it
-- stands among the kept ones; the rules and the final states that are left name kept blocks only, so the end of the list is never reached
-- (theorems `finals_kept` and `children_kept`).
unfoldable pub position : List ℕ → ℕ → ℕ
position [] q = 0
position (p ∷ ps) q = cond (eqb p q) 0 (suc (position ps q))

unfoldable pub numbered : List ℕ → Stage → Automaton
numbered ranks S = record {
  states = length S.states;
  ranks = ranks;
  finals = map (position S.states) S.finals;
  rules = map (renamed (position S.states)) S.rules;
}

-- What steps 2 to 5 leave of a remainder; and the whole reduction, whose table `encode` writes.
unfoldable pub shortened : Stage → Stage
shortened S = restricted (pruned (below S) (quotient (below S) S))

unfoldable pub reduce : Automaton → Automaton
reduce A = numbered A.ranks (shortened (trimmed A))

-- The rounds of step 2.
unfoldable pub reduction_rounds : Automaton → ℕ
reduction_rounds A = rounds_in (trimmed A)
