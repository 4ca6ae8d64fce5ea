-- What the contracts of evaluation cite; no call for everybody cites any of it. Places that a stack does not have, where `set_at` and `start_at` would
-- give their defaults, and differences below 0, where `-` would give 0, are ruled out by what holds of every walk (`FillsNodes`).
use Rattle.std.specs.Prelude.{ℕ, zero, suc, ◌-◌, ◌*◌, ◌≤◌, ◌≡◌, List, [], ◌∷◌, Bool, true, ◌&&◌, map, drop, get_or, eqb, Option}
use Rattle.sets.specs.Set.{member, words}
use Rattle.sets.specs.Entries.{entry_at}
use Rattle.sets.specs.Inner.{states_in}
use Rattle.records.specs.Read.{Read, found, ◌>>=◌}
use Rattle.automaton.specs.Automaton.{Rule, Automaton, WellFormed}
use Rattle.automaton.specs.Row.{rule_at}
use Rattle.indexing.specs.Index.{Indexes}
use Rattle.trees.specs.Postfix.{judge_tree}
use Rattle.trees.specs.Subtree.{Finding, first_of, finding_in}
use Rattle.trees.specs.Walk.{Waiting, Walk, start, advance_all, closing}
use Rattle.trees.specs.declared.entry.Entry.{Entry}
use Rattle.trees.specs.declared.evaluation.Subtree.{Subtree}

-- What evaluation works on: a well-formed automaton, and the index by symbol of its rules.
pub record Evaluable (A : Automaton) (index : List (List ℕ)) : Type 0 where
  pub well_formed : WellFormed A
  pub index_is : Indexes (λ (u : Rule). u.symbol) A.rules index

-- The set of the states of tree e of a stack, and its start.
unfoldable pub set_at : List Entry → ℕ → List ℕ
set_at stack e = entry_at (map (λ (t : Entry). t.states) stack) e

unfoldable pub start_at : List Entry → ℕ → ℕ
start_at stack e = get_or (map (λ (t : Entry). t.start) stack) e 0

-- States that are members, one each and in order, of the sets of some trees.
unfoldable pub in_order : List Entry → List ℕ → Bool
in_order trees [] = true
in_order trees (q ∷ qs) = member (set_at trees 0) q && in_order (drop 1 trees) qs

-- Rule i gives state q: its target is q, and its children are in the sets.
unfoldable pub rule_gives : List Rule → List Entry → ℕ → ℕ → Bool
rule_gives rules trees q i = eqb (rule_at rules i).target q && in_order trees (rule_at rules i).children

-- The set whose words stand two places apart.
unfoldable pub gathered : List ℕ → List ℕ
gathered spread = words (λ (i : ℕ). get_or spread (2 * i) 0)

-- What the walk holds, by the sets and the starts of its trees, from the stack's height and the end of its topmost tree: tree e, counted from 0 from
-- below, has the states of its set, and as many nodes stand before it as its start says. It ends where the tree above it starts, and the topmost one
-- after all nodes that were walked.
unfoldable pub stack_by : (ℕ → List ℕ) → (ℕ → ℕ) → ℕ → ℕ → List Waiting
stack_by sets starts zero end = []
stack_by sets starts (suc e) end = record { states = states_in 256 (sets e); size = end - starts e } ∷ stack_by sets starts e (starts e)

-- The same in an array. What stands there from the height on is not held.
abbrev pub stack_in : List Entry → ℕ → ℕ → List Waiting
stack_in stack h end = stack_by (set_at stack) (start_at stack) h end

unfoldable pub walk_in : List Entry → ℕ → ℕ → Option Subtree → Walk
walk_in stack h nodes first = record { stack = stack_in stack h nodes; nodes = nodes; first = first_of first }

-- So many trees, by their starts, fill the nodes up to an end: the lowest starts at 0, each other one where the one under it ends, and none ends before
-- it starts. Without trees there are no nodes.
unfoldable pub ConsecutiveBy : (ℕ → ℕ) → ℕ → ℕ → Type 0
ConsecutiveBy starts zero end = end ≡ 0
ConsecutiveBy starts (suc e) end = (starts e ≤ end) × ConsecutiveBy starts e (starts e)

-- The same of the trees in an array.
abbrev pub Consecutive : List Entry → ℕ → ℕ → Type 0
Consecutive stack h end = ConsecutiveBy (start_at stack) h end

-- What holds of every walk in an array for n trees, at most 1,024: its trees are no more than that, and fill the nodes.
pub record FillsNodes (n : ℕ) (stack : List Entry) (h nodes : ℕ) : Type 0 where
  pub places : n ≤ 1024
  pub room : h ≤ n
  pub consecutive : Consecutive stack h nodes

-- What holds of every such walk that begins with no more trees than nodes, as each over a tree does: its trees are no more than the nodes, too.
pub record Fills (n : ℕ) (stack : List Entry) (h nodes : ℕ) : Type 0 where
  pub places : n ≤ 1024
  pub room : h ≤ n
  pub few : h ≤ nodes
  pub consecutive : Consecutive stack h nodes

-- The start of a node's tree, which is the number of its leftmost leaf: the node itself, if it has no children, and otherwise the start of the first of
-- them.
unfoldable pub start_of : List Entry → ℕ → ℕ
start_of [] node = node
start_of (t ∷ ts) node = t.start

-- What the walk finds of some symbols; and what an automaton finds of a tree in bytes.
unfoldable pub nodes_finding : Automaton → List ℕ → Read Finding
nodes_finding A symbols = do
  w ← advance_all A start symbols
  closing A w

unfoldable pub tree_finding : Automaton → List ℕ → Read Finding
tree_finding A b = do
  t ← judge_tree A.ranks b
  found (finding_in A t)
