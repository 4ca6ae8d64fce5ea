-- The states of a well-formed automaton are closed under its rules, so its preorder can be computed, is the largest downward simulation between
-- them, and relates them alone. The theorems, the queries and the steps of reduction use it.
use Prim.Native.Nat.{ℕ, ◌<◌}
use native.Mathlib.Omega.{arith}
use mathlib.Core.Path.{sym, ap, ◌∙◌}
use mathlib.Core.List.{Memᴰ}
use lib.ListN.{get_or}
use Rattle.lists.specs.Lists.{from}
use Rattle.lists.proofs.Ranges.{from_member, member_from}
use Rattle.lists.proofs.Elements.{all_member}
use Rattle.automaton.specs.Automaton.{Automaton, WellFormed}
use Rattle.refinement.specs.Simulation.{Simulates}
use Rattle.refinement.specs.Inner.{Simulable}
use Rattle.refinement.proofs.Maximality as maximality
use Rattle.refinement.proofs.Refinement.{Within}
use Rattle.refinement.proofs.Maximality.{Closed}
use Rattle.simulation.specs.Query.{simulation_of}

pub below_member : (n q : ℕ) → q < n → Memᴰ q (from 0 n)
below_member n q h = from_member n 0 q (omega arith) (omega arith)

pub member_below : (n q : ℕ) → Memᴰ q (from 0 n) → q < n
member_below n q m = let h = member_from n 0 q m in omega arith

module _ (A : Automaton) (w : WellFormed A) where
  -- The rules name the automaton's states alone, and a symbol has one rank.
  pub simulable_all : Simulable A.rules (from 0 A.states)
  simulable_all = record {
    targets = λ u m. below_member _ _ (all_member w.rules m).target;
    children = λ u m q c. below_member _ _ (all_member (all_member w.rules m).children c);
    arity = λ u v m n e.
        (all_member w.rules m).arity ∙ ap (λ (f : ℕ). get_or A.ranks f 0) e ∙ sym (all_member w.rules n).arity;
  }

  pub states_closed : Closed A.rules (from 0 A.states)
  unfolding Closed
  states_closed u m t q c = simulable_all.children u m q c

  pub preorder_simulates : Simulates A.rules A.rules (λ (q r : ℕ). Within (simulation_of A) q r)
  unfolding simulation_of
  preorder_simulates = maximality.relation_simulates A.rules (from 0 A.states)

  pub preorder_states : (q r : ℕ) → Within (simulation_of A) q r → (q < A.states) × (r < A.states)
  unfolding simulation_of
  preorder_states q r h =
      let m = maximality.relation_states A.rules (from 0 A.states) q r h in
      (member_below _ q m.0, member_below _ r m.1)
