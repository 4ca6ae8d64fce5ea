-- A tree in postfix order, walked once: what is held between nodes, what it becomes with the next symbol, and the answer at the end. No tree is
-- held; `walk_agrees`, in proofs/Walking.antt, says that with a well-formed automaton the answer is that of the tree.
use Rattle.std.specs.Prelude.{ℕ, suc, ◌+◌, List, [], ◌∷◌, reverse, Bool, true, false, cond, ◌&&◌, length, take, drop, eqb}
use Rattle.lists.specs.Lists.{from, keep, any, among}
use Rattle.records.specs.Read.{Read, found, ◌>>=◌}
use Rattle.automaton.specs.Automaton.{Rule, Automaton}
use Rattle.trees.specs.Postfix.{rank_on, single}
use Rattle.trees.specs.Subtree.{First, nowhere, first_at, Finding, accepted, pointed}

-- A finished tree on the stack: the states that it belongs to, in order, and how many nodes it has.
pub record Waiting : Type 0 where
  pub states : List ℕ
  pub size : ℕ

-- What is held between nodes: the stack, whose top is the tree that was finished last, how many nodes there were, and the first of them whose tree
-- belongs to no state, with the size of that tree.
pub record Walk : Type 0 where
  pub stack : List Waiting
  pub nodes : ℕ
  pub first : First

unfoldable pub start : Walk
start = record { stack = []; nodes = 0; first = nowhere }

-- Waiting trees belong to states, one each and in order.
unfoldable pub have_in_order : List Waiting → List ℕ → Bool
have_in_order [] [] = true
have_in_order [] (q ∷ qs) = false
have_in_order (w ∷ ws) [] = false
have_in_order (w ∷ ws) (q ∷ qs) = among w.states q && have_in_order ws qs

-- The tree of a node with symbol f over these children belongs to state q.
unfoldable pub leads_to : List Rule → ℕ → List Waiting → ℕ → Bool
leads_to rules f ws q = any (λ (u : Rule). eqb u.target q && (eqb u.symbol f && have_in_order ws u.children)) rules

unfoldable pub sizes_of : List Waiting → ℕ
sizes_of [] = 0
sizes_of (w ∷ ws) = w.size + sizes_of ws

-- The tree of a node with symbol f over these children.
unfoldable pub joined : Automaton → ℕ → List Waiting → Waiting
joined A f ws = record { states = keep (leads_to A.rules f ws) (from 0 A.states); size = suc (sizes_of ws) }

unfoldable pub is_none : List ℕ → Bool
is_none [] = true
is_none (q ∷ qs) = false

-- The first node whose tree belongs to no state, after one more node: the number of that one, its tree's size and whether its tree belongs to none.
unfoldable pub noted : First → ℕ → ℕ → Bool → First
noted (first_at i s) number size none = first_at i s
noted nowhere number size none = cond none (first_at number size) nowhere

-- The next node's tree stands on what it leaves of the stack.
unfoldable pub onto : Walk → Waiting → List Waiting → Walk
onto w t below = record { stack = t ∷ below; nodes = suc w.nodes; first = noted w.first w.nodes t.size (is_none t.states) }

-- One node takes its children's trees off the stack, and its own tree takes their place; or it is refused (9, 10, 11).
unfoldable pub advance : Automaton → Walk → ℕ → Read Walk
advance A w f = do
  r ← rank_on A.ranks (length w.stack) f
  found (onto w (joined A f (reverse (take r w.stack))) (drop r w.stack))

unfoldable pub advance_all : Automaton → Walk → List ℕ → Read Walk
advance_all A w [] = found w
advance_all A w (f ∷ fs) = do
  next ← advance A w f
  advance_all A next fs

-- At the end one tree stands there (10): accepted if it belongs to a final state. Otherwise what is held says
-- which subtree to name.
unfoldable pub closing : Automaton → Walk → Read Finding
closing A w = do
  t ← single w.stack
  found (cond (any (among t.states) A.finals) accepted (pointed w.first w.nodes))
