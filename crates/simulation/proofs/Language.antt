-- Where a simulation relates q to r, a tree that reaches q reaches r: each rule of its run is answered, root first. From `Runs`; for the theorem
-- on the preorder and for the steps of reduction.
use Prim.Native.Nat.{ℕ}
use mathlib.Core.Path.{refl, sym, ◌∙◌}
use mathlib.Core.List.{List}
use Rattle.automaton.specs.Automaton.{Rule}
use Rattle.trees.specs.Tree.{Tree, Trees, node, nil, cons}
use Rattle.trees.specs.Run.{RuleAt, Reaches}
use Rattle.trees.proofs.Runs.{ReachesAll, reaches_node, node_reaches}
use Rattle.refinement.specs.Simulation.{Each, none, also, Simulates}

module _ (P Q : List Rule) (D : ℕ → ℕ → Type 0) (simulates : Simulates P Q D) where
  mutual
    unfolding ReachesAll Simulates

    pub simulates_reaches : (t : Tree) (q r : ℕ) → D q r → Reaches P t q → Reaches Q t r
    simulates_reaches (node f ts) q r d h =
        let (qs, u, below) = node_reaches h in
        let v = simulates q r d u.rule u.is_rule u.target in
        let w : RuleAt Q r f v.rule.children = record {
          rule = v.rule;
          is_rule = v.is_rule;
          symbol = sym v.symbol ∙ u.symbol;
          target = v.target;
          children = refl;
        } in
        reaches_node w (simulates_all ts (rw u.children at v.children) below)

    pub simulates_all : (ts : Trees) {qs rs : List ℕ} → Each D qs rs → ReachesAll P ts qs → ReachesAll Q ts rs
    simulates_all nil none h = tt
    simulates_all nil (also d ds) h = absurd h
    simulates_all (cons t ts) none h = absurd h
    simulates_all (cons t ts) (also d ds) h = (simulates_reaches t _ _ d h.0, simulates_all ts ds h.1)
