-- The six steps put together: what step 1 leaves carries over by steps 3 to 6 to the reduced automaton. So both accept the same trees, and
-- the ≤ of the reduced automaton lies within that of the representatives: no two states simulate each other, no rule stands twice and none is dominated; each
-- state is reached and under a final one, so it takes part in an accepted tree. For demand 3.
use Prim.Native.Nat.{ℕ, ◌<◌}
use native.Mathlib.Omega.{arith}
use mathlib.Core.Path.{◌≡◌}
use mathlib.Core.List.{Memᴰ}
use mathlib.Core.Bool.{false}
use lib.ListN.{get_or}
use Rattle.lists.specs.Lists.{Distinct, from}
use Rattle.lists.proofs.Distinctness.{keep_distinct}
use Rattle.lists.proofs.Ranges.{from_member}
use Rattle.automaton.specs.Automaton.{Rule, Automaton, WellFormed}
use Rattle.trees.specs.Tree.{Tree}
use Rattle.trees.specs.Run.{Reaches, Accepts, Useful}
use Rattle.refinement.proofs.Refinement.{Within}
use Rattle.refinement.proofs.Maximality.{relation_states}
use Rattle.simulation.specs.Query.{simulation_of}
use Rattle.stages.specs.Steps.{Stage, trimmed, below, dominated, pruned, restricted, shortened, reduce}
use Rattle.stages.specs.Irreducible.{Irreducible}
use Rattle.stages.specs.Inner.{Sound}
use Rattle.stages.proofs.Carrying.{Carries, carries_compose, Connected, whole, whole_sound, final_trees, final_trees_back}
use Rattle.stages.proofs.Carrying.{origin_reached, origins_below}
use Rattle.stages.proofs.Trimming.{productive_reached, trimmed_sound, trimmed_reaches, trimmed_trees, trees_trimmed}
use Rattle.stages.proofs.Quotient.{quotient_sound, quotient_distinct, quotient_carries, quotient_ordered}
use Rattle.stages.proofs.Pruning.{pruned_carries, pruned_undominated, part_undominated}
use Rattle.stages.proofs.Restricting.{restricted_carries, restricted_connected, restricted_rule}
use Rattle.stages.proofs.Numbering.{numbered_carries, numbered_connected, numbered_distinct, numbered_undominated}
use Rattle.stages.proofs.Soundness.{stage3, stage4, sound_pruned, sound_shortened}
use Rattle.stages.proofs.Sizes.{reduce_well_formed}
use Rattle.stages.proofs.Usefulness.{useful_final, useful_child}

module _ (A : Automaton) (w : WellFormed A) where
  abbrev S : Stage
  S = trimmed A

  sound : Sound (trimmed A)
  sound = trimmed_sound A w

  well : WellFormed (reduce A)
  well = reduce_well_formed A w

  -- The kept state that a number stands for.
  abbrev origin : ℕ → ℕ
  origin i = get_or (shortened S).states i 0

  -- Steps 4 to 6; and with step 3 before them.
  later_steps : Carries origin (stage3 S) (whole (reduce A))
  unfolding reduce shortened
  later_steps =
      carries_compose (pruned_carries (below S) (stage3 S) (quotient_sound S sound) (quotient_ordered S sound))
      (carries_compose (restricted_carries (stage4 S) (sound_pruned S sound)) (numbered_carries A.ranks (restricted (stage4 S)) (sound_shortened S sound)))

  steps : Carries origin S (whole (reduce A))
  steps = carries_compose (quotient_carries S sound) later_steps

  -- The same trees are accepted.
  pub accepted_reduced : (t : Tree) → Accepts A t → Accepts (reduce A) t
  accepted_reduced t a = let (i, m, r) = final_trees steps t (trimmed_trees A w t a) in record { state = i; final = m; reaches = r }

  pub reduced_accepted : (t : Tree) → Accepts (reduce A) t → Accepts A t
  reduced_accepted t a = trees_trimmed A w t (final_trees_back steps t (a.state, a.final, a.reaches))

  -- No two states simulate each other.
  origin_below : (i j : ℕ) → Within (simulation_of (reduce A)) i j → Within (below (trimmed A)) (origin i) (origin j)
  unfolding below simulation_of
  origin_below = origins_below steps sound

  antisymmetric : (i j : ℕ) → Within (simulation_of (reduce A)) i j → Within (simulation_of (reduce A)) j i → i ≡ j
  unfolding simulation_of
  antisymmetric i j h k =
      let (m, n) = relation_states (reduce A).rules (from 0 (reduce A).states) i j h in
      later_steps.origin_injective i j m n
      ((quotient_ordered S sound).antisymmetric (origin i) (origin j) (later_steps.origin_state i m) (later_steps.origin_state j n)
      (origin_below i j h) (origin_below j i k))

  -- Every state takes part in an accepted tree.
  reached : (i : ℕ) → Memᴰ i (whole (reduce A)).states → (t : Tree) × Reaches (reduce A).rules t i
  unfolding trimmed
  reached i m =
      let (t, r) = productive_reached A w (origin i) (steps.origin_state i m) in
      (t, origin_reached steps t i m (trimmed_reaches A w t (origin i) r))

  connected : Connected (whole (reduce A))
  unfolding reduce shortened
  connected =
      numbered_connected A.ranks (restricted (stage4 S)) (sound_shortened S sound) (restricted_connected (stage4 S) (sound_pruned S sound))

  useful : (i : ℕ) → i < (reduce A).states → Useful (reduce A) i
  unfolding Connected
  useful i h =
      let inside = whole_sound (reduce A) well in
      connected (Useful (reduce A))
      (λ q m. let (t, r) = reached q (inside.finals q m) in useful_final (reduce A) well t q m r)
      (λ u m target. useful_child (reduce A) well u m target (λ q c. reached q (inside.children u m q c)))
      i (from_member (reduce A).states 0 i (omega arith) (omega arith))

  -- No rule stands twice, and none is dominated.
  distinct : Distinct (reduce A).rules
  unfolding reduce shortened restricted pruned
  distinct =
      numbered_distinct A.ranks (shortened S) (sound_shortened S sound)
      (keep_distinct _ (keep_distinct _ (quotient_distinct S sound)))

  undominated : (v : Rule) → Memᴰ v (reduce A).rules → dominated (simulation_of (reduce A)) (reduce A).rules v ≡ false
  unfolding reduce shortened
  undominated =
      numbered_undominated A.ranks (restricted (stage4 S)) (sound_shortened S sound) (simulation_of (reduce A)) (below S) origin_below
      (λ u m. part_undominated (below S) _ (stage4 S).rules (λ v n. (restricted_rule (stage4 S) v n).0) u
      (pruned_undominated (below S) (stage3 S) u (restricted_rule (stage4 S) u m).0))

  pub irreducible : Irreducible (reduce A)
  irreducible = record { useful = useful; antisymmetric = antisymmetric; distinct = distinct; undominated = undominated }
