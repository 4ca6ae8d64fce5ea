-- A tree in bytes (document 01: "sheet"): one record of kind 16 and nothing after it; its body is the tree in postfix order.
use Rattle.std.specs.Prelude.{ℕ, suc, ◌+◌, ◌-◌, ◌%◌, max, List, [], ◌∷◌, ◌++◌, reverse, Bool, false, ◌&&◌, length, take, drop, get_or, leb, ltb, eqb}
use Rattle.records.specs.Record as records
use Rattle.records.specs.Bytes.{numbers, fields}
use Rattle.records.specs.Record.{Opening, whole, nothing, opened, body_of, encode_record}
use Rattle.records.specs.Read.{Read, found, refused, ◌>>=◌, ◌>>◌, check}
use Rattle.trees.specs.Tree.{Tree, Trees, node, nil, cons}

unfoldable pub trees_in : List Tree → Trees
trees_in [] = nil
trees_in (t ∷ ts) = cons t (trees_in ts)

-- One node on a stack of so many trees: its symbol (9), its rank against the stack (10), and how many trees then stand there (11). It takes as many
-- trees off the stack as its rank says. The symbol is below the number of ranks where its rank is read.
unfoldable pub rank_on : List ℕ → ℕ → ℕ → Read ℕ
rank_on ranks height f = do
  check (ltb f (length ranks)) 9
  check (leb (get_or ranks f 0) height) 10
  check (leb (1 + (height - get_or ranks f 0)) 1024) 11
  found (get_or ranks f 0)

-- The stack's top is the last tree that was finished.
unfoldable pub push : List ℕ → List Tree → ℕ → Read (List Tree)
push ranks stack f = do
  r ← rank_on ranks (length stack) f
  found (node f (trees_in (reverse (take r stack))) ∷ drop r stack)

unfoldable pub push_all : List ℕ → List Tree → List ℕ → Read (List Tree)
push_all ranks stack [] = found stack
push_all ranks stack (f ∷ fs) = do
  next ← push ranks stack f
  push_all ranks next fs

-- At the end one tree stands there (10).
unfoldable pub single : {A : Type 0} → List A → Read A
single [] = refused 10
single (t ∷ []) = found t
single (t ∷ (s ∷ ts)) = refused 10

-- One whole record of kind 16, nothing after it, and an even body (8).
unfoldable pub is_tree_record : Opening → List ℕ → Bool
is_tree_record (whole kind end) b = eqb kind 16 && (eqb end (length b) && eqb (length (body_of b) % 2) 0)
is_tree_record nothing b = false
is_tree_record (records.refused cause) b = false

-- 8, then the node limit (11), then node by node 9, 10, 11, at the end 10.
unfoldable pub judge_tree : List ℕ → List ℕ → Read Tree
judge_tree ranks b = do
  check (is_tree_record (opened b) b) 8
  check (leb (length (numbers (body_of b))) 16384) 11
  stack ← push_all ranks [] (numbers (body_of b))
  single stack

-- The symbol of each node after its children, children left to right.
unfoldable mutual
  pub postfix : Tree → List ℕ
  postfix (node f ts) = postfixes ts ++ (f ∷ [])

  pub postfixes : Trees → List ℕ
  postfixes nil = []
  postfixes (cons t ts) = postfix t ++ postfixes ts

-- How many trees wait at most after a node while a tree is read: at least the tree itself at the end, and the most among its children, of which
-- child i waits above the i finished ones before it.
unfoldable mutual
  pub peak : Tree → ℕ
  peak (node f ts) = max 1 (peak_above 0 ts)

  pub peak_above : ℕ → Trees → ℕ
  peak_above i nil = 0
  peak_above i (cons t ts) = max (i + peak t) (peak_above (suc i) ts)

-- A tree in bytes, two for each symbol.
unfoldable pub encode_tree : Tree → List ℕ
encode_tree t = encode_record 16 (fields (postfix t))
