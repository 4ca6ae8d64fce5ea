-- Runs, after Abdulla et al., section 2: a state at every node of a tree, such that each node has its rule.
use Rattle.std.specs.Prelude.{ℕ, ◌≡◌, ◌⊎◌}
use mathlib.Core.List.{List, [], ◌∷◌, Memᴰ}
use Rattle.automaton.specs.Automaton.{Rule, Automaton}
use Rattle.trees.specs.Tree.{Tree, Trees, node, nil, cons, Over}

-- A tree with a state at every node.
mutual
  pub data Run : Type 0 where
    at : (state symbol : ℕ) → Runs → Run

  pub data Runs : Type 0 where
    none : Runs
    also : Run → Runs → Runs

unfoldable pub root : Run → ℕ
root (at q f rs) = q

unfoldable pub roots : Runs → List ℕ
roots none = []
roots (also r rs) = root r ∷ roots rs

unfoldable mutual
  pub tree_of : Run → Tree
  tree_of (at q f rs) = node f (trees_of rs)

  pub trees_of : Runs → Trees
  trees_of none = nil
  trees_of (also r rs) = cons (tree_of r) (trees_of rs)

-- At each node some rule has the node's symbol, the node's state as target and its children's states in order.
pub record RuleAt (rules : List Rule) (q f : ℕ) (qs : List ℕ) : Type 0 where
  pub rule : Rule
  pub is_rule : Memᴰ rule rules
  pub symbol : rule.symbol ≡ f
  pub target : rule.target ≡ q
  pub children : rule.children ≡ qs

unfoldable mutual
  pub IsRun : List Rule → Run → Type 0
  IsRun rules (at q f rs) = RuleAt rules q f (roots rs) × AreRuns rules rs

  pub AreRuns : List Rule → Runs → Type 0
  AreRuns rules none = Unit {0}
  AreRuns rules (also r rs) = IsRun rules r × AreRuns rules rs

-- t ⟹ q: some run over t ends in q. The language of A: the trees that reach a final state.
pub record Reaches (rules : List Rule) (t : Tree) (q : ℕ) : Type 0 where
  pub run : Run
  pub over : tree_of run ≡ t
  pub ends : root run ≡ q
  pub is_run : IsRun rules run

pub record Accepts (A : Automaton) (t : Tree) : Type 0 where
  pub state : ℕ
  pub final : Memᴰ state A.finals
  pub reaches : Reaches A.rules t state

-- A state takes part in an accepted tree: it stands at some node of a run that ends in a final state, over a tree over the symbols.
unfoldable mutual
  pub Occurs : ℕ → Run → Type 0
  Occurs p (at q f rs) = (p ≡ q) ⊎ OccursIn p rs

  pub OccursIn : ℕ → Runs → Type 0
  OccursIn p none = ⊥
  OccursIn p (also r rs) = Occurs p r ⊎ OccursIn p rs

pub record Useful (A : Automaton) (q : ℕ) : Type 0 where
  pub run : Run
  pub over : Over A.ranks (tree_of run)
  pub is_run : IsRun A.rules run
  pub final : Memᴰ (root run) A.finals
  pub occurs : Occurs q run
