-- Ground trees (document 01: the tree of a "sheet"), and the states that a tree belongs to.
use Rattle.std.specs.Prelude.{ℕ, zero, suc, ◌<◌, ◌≡◌, List, [], ◌∷◌, Bool, true, false, ◌&&◌, length, get_or, eqb}
use Rattle.lists.specs.Lists.{any}
use Rattle.automaton.specs.Automaton.{Rule, Automaton}

mutual
  pub data Tree : Type 0 where
    node : (symbol : ℕ) → Trees → Tree

  pub data Trees : Type 0 where
    nil : Trees
    cons : Tree → Trees → Trees

-- How many children they are.
unfoldable pub arity_of : Trees → ℕ
arity_of nil = zero
arity_of (cons t ts) = suc (arity_of ts)

-- A tree over some symbols, given by their ranks: each node has a symbol of them, so that its rank is there, and as many children as that.
unfoldable mutual
  pub Over : List ℕ → Tree → Type 0
  Over ranks (node f ts) = (f < length ranks) × (arity_of ts ≡ get_or ranks f 0) × AllOver ranks ts

  pub AllOver : List ℕ → Trees → Type 0
  AllOver ranks nil = Unit {0}
  AllOver ranks (cons t ts) = Over ranks t × AllOver ranks ts

-- A tree belongs to state q if some rule with target q has the tree's top symbol and its children belong to the rule's
-- child states, in order.
unfoldable mutual
  pub belongs : List Rule → Tree → ℕ → Bool
  belongs rules (node f ts) q = any (λ (u : Rule). eqb u.target q && (eqb u.symbol f && belong_in_order rules ts u.children)) rules

  pub belong_in_order : List Rule → Trees → List ℕ → Bool
  belong_in_order rules nil [] = true
  belong_in_order rules nil (q ∷ qs) = false
  belong_in_order rules (cons t ts) [] = false
  belong_in_order rules (cons t ts) (q ∷ qs) = belongs rules t q && belong_in_order rules ts qs

-- A table accepts a tree that belongs to a final state.
unfoldable pub accepts : Automaton → Tree → Bool
accepts A t = any (λ (q : ℕ). belongs A.rules t q) A.finals
