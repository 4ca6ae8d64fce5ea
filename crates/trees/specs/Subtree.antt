-- The subtree that a check names where it does not accept a tree (document 02: the "piece" to look at): the first in postfix order that belongs to
-- no state; or the whole tree, where each belongs to one.
use Rattle.std.specs.Prelude.{ℕ, suc, ◌-◌, ◌≡◌, ◌⊎◌, List, [], ◌∷◌, ◌++◌, Bool, true, false, cond, length, take, drop, Option, Some, None}
use Rattle.lists.specs.Lists.{All, from, any}
use Rattle.automaton.specs.Automaton.{Automaton}
use Rattle.trees.specs.Tree.{Tree, Trees, node, nil, cons, belongs, accepts}
use Rattle.trees.specs.Postfix.{postfix}
use Rattle.trees.specs.declared.evaluation.Subtree.{Subtree}

-- The subtrees of a tree, each where its top node stands in postfix order. The last is the tree itself.
unfoldable mutual
  pub subtrees : Tree → List Tree
  subtrees (node f ts) = subtrees_in ts ++ (node f ts ∷ [])

  pub subtrees_in : Trees → List Tree
  subtrees_in nil = []
  subtrees_in (cons t ts) = subtrees t ++ subtrees_in ts

-- The smaller ones inside a tree.
unfoldable pub smaller : Tree → List Tree
smaller (node f ts) = subtrees_in ts

-- Whether a tree belongs to some state, final or not.
unfoldable pub has_state : Automaton → Tree → Bool
has_state A t = any (belongs A.rules t) (from 0 A.states)

-- The first node whose tree belongs to no state, and how many nodes that tree has; or there is none. And what the code holds, in these words.
pub data First : Type 0 where
  nowhere : First
  first_at : (node size : ℕ) → First

unfoldable pub first_of : Option Subtree → First
first_of None = nowhere
first_of (Some t) = first_at t.node t.size

-- The first of some trees that belongs to no state: its number, where they are numbered from i on, and how many nodes it has. `nowhere` if each
-- belongs to one.
unfoldable pub first_bad : Automaton → ℕ → List Tree → First
first_bad A i [] = nowhere
first_bad A i (t ∷ ts) = cond (has_state A t) (first_bad A (suc i) ts) (first_at i (length (postfix t)))

-- What is found of a tree: accepted; or not, and a subtree, by the number of its top node in postfix order, counted from 0, and by how many
-- nodes it has.
pub data Finding : Type 0 where
  accepted : Finding
  rejected : (node size : ℕ) → Finding

unfoldable pub is_accepted : Finding → Bool
is_accepted accepted = true
is_accepted (rejected i size) = false

-- The first subtree that belongs to no state; where each belongs to one, the whole tree of so many nodes, at least one, whose top node is the last.
unfoldable pub pointed : First → ℕ → Finding
pointed (first_at i size) nodes = rejected i size
pointed nowhere nodes = rejected (nodes - 1) nodes

unfoldable pub finding_in : Automaton → Tree → Finding
finding_in A t = cond (accepts A t) accepted (pointed (first_bad A 0 (subtrees t)) (length (postfix t)))

-- What holds of the subtree that is named in a tree t, which is not accepted. It is one of the subtrees, by the numbers given, and its symbols are the
-- last so many up to its top node. Each subtree whose top node stands before its own has a state, and so has each smaller one inside it; it has none
-- itself, or it is the whole tree.
pub record Named (A : Automaton) (t : Tree) (i size : ℕ) : Type 0 where
  pub not_accepted : accepts A t ≡ false
  pub subtree : Tree
  pub before : List Tree
  pub after : List Tree
  pub is_subtree : subtrees t ≡ before ++ (subtree ∷ after)
  pub top : length before ≡ i
  pub nodes : length (postfix subtree) ≡ size
  pub symbols : take size (drop (suc i - size) (postfix t)) ≡ postfix subtree
  pub earlier : All (λ (s : Tree). has_state A s ≡ true) before
  pub inside : All (λ (s : Tree). has_state A s ≡ true) (smaller subtree)
  pub itself : (has_state A subtree ≡ false) ⊎ (subtree ≡ t)
