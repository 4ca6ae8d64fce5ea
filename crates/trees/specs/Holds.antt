-- What is held between nodes, by the trees that were read and by the stack; and what the walk finds of a tree in bytes. No contract cites any of it:
-- proofs/Theorems.antt is about it.
use Rattle.std.specs.Prelude.{ℕ, zero, suc, ◌+◌, ◌^◌, ◌≤◌, ◌<◌, ◌≡◌, List, min, map, reverse, length, leb, Option}
use Rattle.lists.specs.Lists.{All, Rising, from, keep}
use Rattle.records.specs.Bytes.{numbers}
use Rattle.records.specs.Record.{opened, body_of}
use Rattle.records.specs.Read.{Read, ◌>>◌, check}
use Rattle.automaton.specs.Automaton.{Automaton}
use Rattle.trees.specs.Tree.{Tree, belongs}
use Rattle.trees.specs.Postfix.{trees_in, is_tree_record, postfix}
use Rattle.trees.specs.Subtree.{subtrees_in, First, nowhere, first_at, first_of, first_bad, Finding}
use Rattle.trees.specs.Walk.{Waiting, Walk, sizes_of}
use Rattle.trees.specs.Inner.{set_at, start_at, walk_in, nodes_finding}
use Rattle.trees.specs.declared.entry.Entry.{Entry}
use Rattle.trees.specs.declared.evaluation.Subtree.{Subtree}

-- What the walk finds of a tree in bytes: 8, then the node limit (11), from the record and its length; then the walk over the body's symbols.
unfoldable pub walk_finding : Automaton → List ℕ → Read Finding
walk_finding A b = do
  check (is_tree_record (opened b) b) 8
  check (leb (length (numbers (body_of b))) 16384) 11
  nodes_finding A (numbers (body_of b))

-- The subtrees of the trees on a stack, from its bottom up: one for each node that was read.
unfoldable pub read_trees : List Tree → List Tree
read_trees stack = subtrees_in (trees_in (reverse stack))

-- Of a tree: the states that it belongs to, and how many nodes it has.
unfoldable pub waiting_of : Automaton → Tree → Waiting
waiting_of A t = record { states = keep (belongs A.rules t) (from 0 A.states); size = length (postfix t) }

-- Of the trees on a stack: that of each, how many nodes were read, and the first of them whose tree belongs to no state.
unfoldable pub walk_of : Automaton → List Tree → Walk
walk_of A trees = record { stack = map (waiting_of A) trees; nodes = length (read_trees trees); first = first_bad A 0 (read_trees trees) }

-- What is held beside an array: the height of the stack in it, how many nodes there were, and the first of them whose tree belongs to no state.
pub record Held : Type 0 where
  pub height : ℕ
  pub nodes : ℕ
  pub first : Option Subtree

-- Room on the stack for n trees, or for 1,024 where n is greater.
abbrev pub StackRoom : ℕ → List Entry → Type 0
StackRoom n stack = min n 1024 ≤ length stack

-- So many trees stand one after the other up to an end: none ends before it starts. Unlike with `Consecutive`, the lowest may start after 0.
unfoldable pub Following : List Entry → ℕ → ℕ → Type 0
Following stack zero end = Unit {0}
Following stack (suc e) end = (start_at stack e ≤ end) × Following stack e (start_at stack e)

-- What is held fits the array: at most 1,024 trees, with room for one more up to that number; fewer nodes than a start can count; and no tree ends
-- before it starts.
pub record FitsArray (stack : List Entry) (held : Held) : Type 0 where
  pub few : (held.height ≤ 1024) × (held.nodes < 65536)
  pub room : StackRoom (held.height + 1) stack
  pub following : Following stack held.height held.nodes

-- A first node and the size of its tree, if there is one, are below n.
unfoldable pub FirstBelow : ℕ → First → Type 0
FirstBelow n nowhere = Unit {0}
FirstBelow n (first_at i size) = (i < n) × (size < n)

-- An array that holds a walk: what is held fits it, and the numbers of the first node have the bits of their types. Those of the sets and the starts
-- have them as parts of an `Entry`.
pub record Holding (stack : List Entry) (held : Held) (w : Walk) : Type 0 where
  pub fits : FitsArray stack held
  pub first : FirstBelow (2 ^ 64) (first_of held.first)
  pub holds : walk_in stack held.height held.nodes held.first ≡ w

-- Arrays with the same sets and starts up to a height.
abbrev pub SameUpTo : ℕ → List Entry → List Entry → Type 0
SameUpTo h stack stack' = (e : ℕ) → e < h → (set_at stack e ≡ set_at stack' e) × (start_at stack e ≡ start_at stack' e)

-- The states of a waiting tree are below n, each once and in order.
abbrev pub StatesBelow : ℕ → Waiting → Type 0
StatesBelow n t = Rising t.states × All (λ (q : ℕ). q < n) t.states

-- The walks that an array can hold: at most 1,024 trees, of states below 256; fewer nodes than 65,536; sizes that add up to no more than the number of
-- nodes; and a first node of any number and size that 64 bits have.
pub record HoldableWalk (w : Walk) : Type 0 where
  pub few : (length w.stack ≤ 1024) × (w.nodes < 65536)
  pub states : All (StatesBelow 256) w.stack
  pub sizes : sizes_of w.stack ≤ w.nodes
  pub first : FirstBelow (2 ^ 64) w.first
