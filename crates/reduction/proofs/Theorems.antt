-- What holds of reduction, stated over the definitions of specs/ alone: of each step, of a reduced automaton, and demand 3 of the bytes that
-- the call writes, whose sentences are the fields of the record in specs/Demand3.antt. Each theorem is proved in the file that its body names.
use Prim.Native.Nat.{ℕ, suc, ◌≤◌, ◌<◌}
use mathlib.Core.Path.{◌≡◌, sym, ap, ◌∙◌}
use mathlib.Core.Logic.{◌⊎◌, ◌↔◌}
use mathlib.Core.List.{List, Memᴰ}
use mathlib.Core.Bool.{true}
use lib.ListN.{length, take, get_or}
use Rattle.lists.proofs.Booleans.{and_true_in, and_true_out}
use Rattle.records.specs.Read.{found, refused}
use Rattle.records.proofs.Causes.{cause_of}
use Rattle.automaton.specs.Automaton.{Rule, Automaton, WellFormed}
use Rattle.automaton.specs.Table.{judge, encode}
use Rattle.automaton.specs.Decoded.{size_of}
use Rattle.trees.specs.Tree.{Tree, Over}
use Rattle.trees.specs.Run.{Reaches, Accepts}
use Rattle.trees.specs.Answers.{acceptance_of}
use Rattle.refinement.specs.Simulation.{Simulates, related, relation_at}
use Rattle.refinement.proofs.Refinement as refinement
use Rattle.simulation.specs.Check.{acceptance, counted, Checks}
use Rattle.simulation.specs.declared.checking.Checked.{Checked}
use Rattle.simulation.specs.declared.checking.Counts.{Counts}
use Rattle.stages.specs.Steps.{Stage, productive, trimmed, below, rounds_in, equivalent, representative, quotient, pruned, kept, reduce}
use Rattle.stages.specs.Steps.{reduction_rounds}
use Rattle.stages.specs.Irreducible.{Irreducible}
use Rattle.stages.proofs.Trimming as trimming
use Rattle.stages.proofs.Quotient as quot
use Rattle.stages.proofs.Restricting as restricting
use Rattle.stages.proofs.Soundness as soundness
use Rattle.stages.proofs.Agreement as agreement
use Rattle.stages.proofs.Sizes as counting
use Rattle.stages.proofs.Usefulness.{run_over}
use Rattle.reduction.specs.Reduce.{reduction, reduction_after}
use Rattle.reduction.specs.Demand3.{Demand3}
use Rattle.reduction.specs.declared.reducing.Reduction.{Reduction}
use Rattle.reduction.proofs.Answers as rewritten
use Rattle.reduction.proofs.Demand3 as delivered

-- Of the steps.

module _ (A : Automaton) (w : WellFormed A) where
  -- Step 1 keeps the states to which a tree over the symbols belongs.
  pub productive_trees : (q : ℕ) → Memᴰ q (productive A) ↔ ((t : Tree) × Over A.ranks t × Reaches A.rules t q)
  productive_trees q = (
    λ m. let (t, r) = trimming.productive_reached A w q m in (t, rw r.over at (run_over A w r.run r.is_run), r),
    λ (t, over, r). trimming.reached_productive A w t q r,
  )

  -- Step 2: ≤ is a downward simulation of the remainder and contains every other one; the rounds are the least j with R(j+1) = Rj.
  pub remainder_simulation : Simulates (trimmed A).rules (trimmed A).rules (λ (q r : ℕ). related (below (trimmed A)) q r ≡ true)
  remainder_simulation = quot.below_simulates (trimmed A) (trimming.trimmed_sound A w)

  pub remainder_largest : (D : ℕ → ℕ → Type 0) → Simulates (trimmed A).rules (trimmed A).rules D
      → ((q r : ℕ) → D q r → Memᴰ q (trimmed A).states × Memᴰ r (trimmed A).states)
      → (q r : ℕ) → D q r → related (below (trimmed A)) q r ≡ true
  remainder_largest = quot.below_largest (trimmed A) (trimming.trimmed_sound A w)

  pub rounds_settle : relation_at (trimmed A).rules (trimmed A).states (suc (reduction_rounds A))
      ≡ relation_at (trimmed A).rules (trimmed A).states (reduction_rounds A)
  unfolding reduction_rounds rounds_in
  rounds_settle = refinement.rounds_fixed (trimmed A).rules (trimmed A).states

  pub rounds_least : (i : ℕ) → i < reduction_rounds A
      → relation_at (trimmed A).rules (trimmed A).states (suc i) ≡ relation_at (trimmed A).rules (trimmed A).states i → ⊥
  unfolding reduction_rounds rounds_in
  rounds_least = refinement.rounds_least (trimmed A).rules (trimmed A).states

  -- Step 3: a representative is the smallest state of its block, and ≤ between blocks is that of any members.
  pub representative_equivalent : (q : ℕ) → Memᴰ q (trimmed A).states
      → equivalent (below (trimmed A)) q (representative (below (trimmed A)) (trimmed A).states q) ≡ true
  unfolding equivalent
  representative_equivalent q m =
      let sound = trimming.trimmed_sound A w in
      and_true_in (quot.below_representative (trimmed A) sound q m) (quot.representative_below (trimmed A) sound q m)

  pub representative_smallest : (q r : ℕ) → Memᴰ r (trimmed A).states → equivalent (below (trimmed A)) q r ≡ true
      → representative (below (trimmed A)) (trimmed A).states q ≤ r
  unfolding equivalent
  representative_smallest q r m h =
      let s = and_true_out (related (below (trimmed A)) q r) (related (below (trimmed A)) r q) h in
      quot.representative_least (trimmed A) (trimming.trimmed_sound A w) q r m s.0 s.1

  pub blocks_below : (p q r s : ℕ) → equivalent (below (trimmed A)) p q ≡ true → equivalent (below (trimmed A)) r s ≡ true
      → related (below (trimmed A)) p r ≡ true → related (below (trimmed A)) q s ≡ true
  unfolding equivalent
  blocks_below p q r s e f h =
      let through = quot.below_transitive (trimmed A) (trimming.trimmed_sound A w) in
      let a = and_true_out (related (below (trimmed A)) p q) (related (below (trimmed A)) q p) e in
      let b = and_true_out (related (below (trimmed A)) r s) (related (below (trimmed A)) s r) f in
      through q p s a.1 (through p r s h b.0)

  -- Step 5 keeps the final blocks and the children of rules whose target is kept, and nothing that does not follow from these.
  abbrev undominated : Stage
  undominated = pruned (below (trimmed A)) (quotient (below (trimmed A)) (trimmed A))

  pub finals_kept : (q : ℕ) → Memᴰ q undominated.finals → Memᴰ q (kept undominated)
  finals_kept = restricting.finals_kept undominated (soundness.sound_pruned (trimmed A) (trimming.trimmed_sound A w))

  pub children_kept : (u : Rule) → Memᴰ u undominated.rules → Memᴰ u.target (kept undominated)
      → (q : ℕ) → Memᴰ q u.children → Memᴰ q (kept undominated)
  children_kept = restricting.children_kept undominated (soundness.sound_pruned (trimmed A) (trimming.trimmed_sound A w))

  pub kept_least : (P : ℕ → Type 0) → ((q : ℕ) → Memᴰ q undominated.finals → P q)
      → ((u : Rule) → Memᴰ u undominated.rules → Memᴰ u.target (kept undominated) → P u.target
      → (q : ℕ) → Memᴰ q u.children → P q)
      → (q : ℕ) → Memᴰ q (kept undominated) → P q
  kept_least = restricting.kept_least undominated (soundness.sound_pruned (trimmed A) (trimming.trimmed_sound A w))

-- Of automata.

module _ (A : Automaton) (w : WellFormed A) where
  -- The same finite trees are accepted, of any size.
  pub same_trees : (t : Tree) → Over A.ranks t → Accepts A t ↔ Accepts (reduce A) t
  same_trees t over = (agreement.accepted_reduced A w t, agreement.reduced_accepted A w t)

  -- Every state takes part in an accepted tree, no two different states simulate each other, no rule stands twice or is dominated.
  pub reduced_irreducible : Irreducible (reduce A)
  reduced_irreducible = agreement.irreducible A w

  -- The reduced automaton is well-formed, keeps the symbols and their ranks, and is never longer.
  pub reduced_well_formed : WellFormed (reduce A)
  reduced_well_formed = counting.reduce_well_formed A w

  pub reduced_ranks : (reduce A).ranks ≡ A.ranks
  reduced_ranks = delivered.ranks_stay A

  pub reduced_no_longer : length (encode (reduce A)) ≤ length (encode A)
  reduced_no_longer = counting.reduce_shorter A w

  -- Reduced again, it is itself.
  pub reduced_again : reduce (reduce A) ≡ reduce A
  reduced_again = delivered.fixpoint_of A w

-- Of bytes. A well-formed table is answered wherever the output has room for the reduced one, as every output as long as the table has.
module _ (table : List ℕ) (A : Automaton) (judged : judge table ≡ found A) where
  pub reduction_answers : (out : List ℕ) → length (encode (reduce A)) ≤ length out → reduction table out ≡ found (record {
    length = length (encode (reduce A));
    old = size_of A;
    new = size_of (reduce A);
    rounds = reduction_rounds A;
  })
  unfolding rewritten.answer_for
  reduction_answers out = rewritten.reduction_fits table out A judged

  pub reduced_fits : ((i : ℕ) → get_or table i 0 < 256) → length (encode (reduce A)) ≤ length table
  reduced_fits bytes = delivered.reduced_fits table A bytes judged

-- A refusal is by one of the table's causes, 1 to 7, or by 13.
pub reduction_causes : (table out : List ℕ) (cause : ℕ) → reduction table out ≡ refused cause
    → ((1 ≤ cause) × (cause ≤ 7)) ⊎ (cause ≡ 13)
reduction_causes table out cause = cause_of (rewritten.reduction_causes table out)

-- A refusal leaves the output.
pub reduction_leaves : (table out : List ℕ) (cause : ℕ) → reduction table out ≡ refused cause → reduction_after (judge table) out ≡ out
reduction_leaves = rewritten.reduction_keeps

-- Demand 3, which the call `reduce` ensures, of the definitions that its other promises cite.
pub demand_3 : (table out : List ℕ) (r : Reduction) → ((i : ℕ) → get_or table i 0 < 256) → reduction table out ≡ found r
    → Demand3 table out r (take r.length (reduction_after (judge table) out))
demand_3 = delivered.demand_3

-- Under demand 3 the counts are the same too, whatever was counted before; and of two checks that meet the promise of the call `check` both accept, or
-- neither, or both refuse by the same cause, and the counts are the same. The subtrees that they name may differ.
module _ (table out : List ℕ) (r : Reduction) (bytes : List ℕ) (d : Demand3 table out r bytes) (counts : Counts) (tree : List ℕ) where
  pub same_counts : counted counts (acceptance table tree) ≡ counted counts (acceptance bytes tree)
  same_counts = ap (counted counts) (d.same_answer tree)

  pub same_check : (a b : Checked) → Checks counts table tree a → Checks counts bytes tree b
      → (acceptance_of a.answer ≡ acceptance_of b.answer) × (a.counts ≡ b.counts)
  same_check a b h k = (
    h.answer ∙ d.same_answer tree ∙ sym k.answer,
    h.counts_after ∙ same_counts ∙ sym k.counts_after,
  )
