-- What the number of an exported call means, and by which causes it can refuse.
use Rattle.std.specs.Prelude.{ℕ, ◌≤◌, ◌<◌, ◌≡◌, ◌⊎◌, ◌↔◌, Bool, true, false, List, length}
use Rattle.records.specs.Read.{Read, found, refused}
use Rattle.automaton.specs.Automaton.{Automaton}
use Rattle.automaton.specs.Table.{judge}
use Rattle.trees.specs.Tree.{Tree}
use Rattle.trees.specs.Postfix.{judge_tree}
use Rattle.trees.specs.Subtree.{rejected, Named}
use Rattle.simulation.specs.Check.{finding}

-- The causes from 1 to a number; these or one more.
abbrev pub UpTo : ℕ → ℕ → Type 0
UpTo last cause = (1 ≤ cause) × (cause ≤ last)

abbrev pub UpToOr : ℕ → ℕ → ℕ → Type 0
UpToOr last other cause = UpTo last cause ⊎ (cause ≡ other)

-- What the number means that a call returns. The call needs some elements in an array, and reads x. It returns 0 where it found something, or
-- found yes; x's refusal, by one of the call's causes; 100 where the array has fewer elements; 101 where it found no. Each means that alone, and
-- there are no others.
pub record Means {A : Type 0} (Cause : ℕ → Type 0) (need : ℕ) (array : List ℕ) (x : Read A) (Done No : Type 0) (code : ℕ) : Type 0 where
  pub done : (code ≡ 0) ↔ ((need ≤ length array) × Done)
  pub refusal : (cause : ℕ) → Cause cause → (code ≡ cause) ↔ ((need ≤ length array) × (x ≡ refused cause))
  pub short : (code ≡ 100) ↔ (length array < need)
  pub no : (code ≡ 101) ↔ ((need ≤ length array) × No)
  pub only : (code ≡ 0) ⊎ (Cause code ⊎ ((code ≡ 100) ⊎ (code ≡ 101)))

-- Of a call that does some work 0 means that it did, and 101 is never returned.
abbrev pub WorkMeans : {A : Type 0} → (ℕ → Type 0) → ℕ → List ℕ → Read A → ℕ → Type 0
WorkMeans {A} Cause need array x = Means Cause need array x ((a : A) × (x ≡ found a)) ⊥

-- Of a question 0 means yes and 101 no.
abbrev pub YesNoMeans : (ℕ → Type 0) → ℕ → List ℕ → Read Bool → ℕ → Type 0
YesNoMeans Cause need array x = Means Cause need array x (x ≡ found true) (x ≡ found false)

-- What the two numbers mean that a check writes where it returns 101: they name a subtree of the tree that was read with the table's automaton.
pub record NamesSubtree (table tree : List ℕ) : Type 0 where
  pub automaton : Automaton
  pub read : Tree
  pub is_automaton : judge table ≡ found automaton
  pub is_read : judge_tree automaton.ranks tree ≡ found read
  pub node : ℕ
  pub size : ℕ
  pub is_found : finding table tree ≡ found (rejected node size)
  pub named : Named automaton read node size
