-- What holds of checking and of the simulation, stated over the definitions of specs/ alone.
use Prim.Native.Nat.{ℕ, suc, ◌+◌, ◌*◌, ◌-◌, ◌/◌, ◌%◌, ◌^◌, ◌≤◌, ◌<◌}
use mathlib.Core.Path.{◌≡◌, sym, ap, ◌∙◌}
use mathlib.Core.Logic.{◌⊎◌, ◌↔◌}
use mathlib.Core.List.{List, ◌∷◌, ◌++◌, Memᴰ}
use mathlib.Core.Bool.{true, true≢false}
use lib.ListN.{length, take, drop, get_or}
use Rattle.lists.specs.Lists.{Distinct, from}
use Rattle.lists.proofs.Ranges.{length_from}
use Rattle.std.specs.Prelude.{Ok}
use Rattle.records.specs.Read.{found, refused, ◌>>=◌, map_read}
use Rattle.records.proofs.Causes.{cause_of}
use Rattle.automaton.specs.Automaton.{Automaton, WellFormed}
use Rattle.automaton.specs.Table.{judge}
use Rattle.automaton.proofs.Theorems.{judged_well_formed}
use Rattle.trees.specs.Tree.{Tree, Over, belongs, accepts}
use Rattle.trees.specs.Run.{Reaches, Accepts}
use Rattle.trees.specs.Postfix.{judge_tree, postfix, peak, encode_tree}
use Rattle.trees.specs.Subtree.{subtrees, has_state, rejected, is_accepted, Named}
use Rattle.trees.specs.Holds.{walk_finding}
use Rattle.trees.specs.Answers.{finding_of}
use Rattle.trees.specs.declared.evaluation.Subtree.{Subtree}
use Rattle.trees.specs.declared.evaluation.Answer.TheVariants.{Accepted, Rejected}
use Rattle.trees.proofs.Runs as runs
use Rattle.trees.proofs.Postfix as trees
use Rattle.trees.proofs.Naming as naming
use Rattle.simulation.proofs.Acceptance as accepting
use Rattle.refinement.specs.Simulation.{Matched, Simulates, related, relation_at}
use Rattle.simulation.proofs.Language as language
use Rattle.refinement.proofs.Refinement as refinement
use Rattle.refinement.proofs.Maximality as maximality
use Rattle.simulation.specs.Check.{acceptance, finding, counted, Checks}
use Rattle.simulation.specs.declared.checking.Checked.{Checked}
use Rattle.simulation.specs.declared.checking.Counts.{Counts}
use Rattle.simulation.specs.Query.{simulation_of, rounds_of, relation_bytes, relation_query, relation_after, pair_query, Unmatched}
use Rattle.simulation.proofs.Preorder as preorder
use Rattle.simulation.proofs.Queries as queries
use Rattle.simulation.proofs.Causes as causes

-- A tree belongs to a state, in document 01's words, exactly if it reaches it by a run.
pub belongs_reaches : (A : Automaton) (t : Tree) (q : ℕ) → (belongs A.rules t q ≡ true) ↔ Reaches A.rules t q
belongs_reaches A t q = (runs.belongs_reaches A.rules t q, runs.reaches_belongs A.rules t q)

-- A tree that is not refused is accepted exactly if some run over it ends in a final state.
pub accepted_runs : (table tree : List ℕ) (A : Automaton) (t : Tree) → judge table ≡ found A → judge_tree A.ranks tree ≡ found t
    → (acceptance table tree ≡ found true) ↔ Accepts A t
accepted_runs table tree A t e f =
    let answer = accepting.acceptance_found table tree A t e f in (
      λ h. runs.accepts_run A t (let same : accepts A t ≡ true = cc in same),
      λ h. answer ∙ ap found (runs.run_accepts A t h),
    )

-- The relation is a downward simulation and contains every other one between the states; it is reflexive and transitive.
module _ (A : Automaton) (w : WellFormed A) where
  pub simulation : Simulates A.rules A.rules (λ (q r : ℕ). related (simulation_of A) q r ≡ true)
  simulation = preorder.preorder_simulates A w

  pub simulation_largest : (D : ℕ → ℕ → Type 0) → Simulates A.rules A.rules D
      → ((q r : ℕ) → D q r → (q < A.states) × (r < A.states)) → (q r : ℕ) → D q r → related (simulation_of A) q r ≡ true
  unfolding simulation_of
  simulation_largest D simulates inside =
      maximality.relation_largest A.rules (from 0 A.states) D simulates
      (λ q r d. (preorder.below_member _ q (inside q r d).0, preorder.below_member _ r (inside q r d).1))

  pub simulation_reflexive : (q : ℕ) → q < A.states → related (simulation_of A) q q ≡ true
  unfolding simulation_of
  simulation_reflexive q h =
      maximality.relation_reflexive A.rules (from 0 A.states) (preorder.states_closed A w) q (preorder.below_member _ q h)

  pub simulation_transitive : (q r s : ℕ) → related (simulation_of A) q r ≡ true → related (simulation_of A) r s ≡ true
      → related (simulation_of A) q s ≡ true
  unfolding simulation_of
  simulation_transitive = maximality.relation_transitive A.rules (from 0 A.states)

  -- The rounds are the least j with R(j+1) = Rj, and at most n(n − 1).
  pub rounds_settle : relation_at A.rules (from 0 A.states) (suc (rounds_of A)) ≡ relation_at A.rules (from 0 A.states) (rounds_of A)
  unfolding rounds_of
  rounds_settle = refinement.rounds_fixed A.rules (from 0 A.states)

  pub rounds_least : (i : ℕ) → i < rounds_of A
      → relation_at A.rules (from 0 A.states) (suc i) ≡ relation_at A.rules (from 0 A.states) i → ⊥
  unfolding rounds_of
  rounds_least = refinement.rounds_least A.rules (from 0 A.states)

  pub rounds_bound : rounds_of A ≤ A.states * (A.states - 1)
  unfolding rounds_of
  rounds_bound = rw (length_from 0 A.states) at (maximality.rounds_below A.rules (from 0 A.states) (preorder.states_closed A w))

  -- Where q ≤ r, a tree that reaches q reaches r.
  pub simulation_reaches : (t : Tree) (q r : ℕ) → related (simulation_of A) q r ≡ true → Reaches A.rules t q → Reaches A.rules t r
  simulation_reaches = language.simulates_reaches A.rules A.rules (λ (q r : ℕ). related (simulation_of A) q r ≡ true) simulation

-- What is read as a tree is a tree over the symbols, and is written as the bytes that it was read from.
pub read_tree : (ranks b : List ℕ) (t : Tree) → ((i : ℕ) → get_or b i 0 < 256) → judge_tree ranks b ≡ found t
    → Over ranks t × (encode_tree t ≡ b)
read_tree ranks b t bytes e = ((trees.tree_found ranks b t e).over, trees.encode_tree_judged ranks b t bytes e)

-- A tree over the symbols, written, is read back exactly if it has at most 16,384 nodes and at most 1,024 trees wait; any other whose
-- length fits a record's four bytes is refused with 11.
module _ (ranks : List ℕ) (t : Tree) (few : length ranks ≤ 256) (over : Over ranks t) where
  pub written_tree : (judge_tree ranks (encode_tree t) ≡ found t) ↔ ((length (postfix t) ≤ 16384) × (peak t ≤ 1024))
  written_tree = trees.written_read ranks t few over

  pub written_tree_refused : 2 * length (postfix t) + 2 < 4294967296 → ((length (postfix t) ≤ 16384) × (peak t ≤ 1024) → ⊥)
      → judge_tree ranks (encode_tree t) ≡ refused 11
  written_tree_refused = trees.written_refused ranks t few over

-- So every tree over a table's symbols that keeps both limits gets an answer: `check` accepts it exactly if some run accepts it, and otherwise it
-- names a subtree.
module _ (table : List ℕ) (A : Automaton) (t : Tree) (judged : judge table ≡ found A) (over : Over A.ranks t)
    (nodes : length (postfix t) ≤ 16384) (waiting : peak t ≤ 1024) where
  read_back : judge_tree A.ranks (encode_tree t) ≡ found t
  read_back = (written_tree A.ranks t (judged_well_formed table A judged).symbols over).1 (nodes, waiting)

  pub acceptance_answers : acceptance table (encode_tree t) ≡ found (accepts A t)
  acceptance_answers = accepting.acceptance_found table (encode_tree t) A t judged read_back

  pub check_answers : (counts : Counts) (r : Checked) → Checks counts table (encode_tree t) r
      → ((r.answer ≡ Ok Accepted) ⊎ ((s : Subtree) × (r.answer ≡ Ok (Rejected s)) × Named A t s.node s.size))
      × ((r.answer ≡ Ok Accepted) ↔ Accepts A t)
  check_answers counts r c =
      let s = accepting.answer_found table (encode_tree t) A t judged read_back r.answer c.subtree in
      (s.0, (λ h. runs.accepts_run A t (s.1.0 h), λ h. s.1.1 (runs.run_accepts A t h)))

-- The subtree that is named where a tree is not accepted: what the record `Named` says holds of it.
pub named_subtree : (table tree : List ℕ) (A : Automaton) (t : Tree) {i size : ℕ} → judge table ≡ found A → judge_tree A.ranks tree ≡ found t
    → finding table tree ≡ found (rejected i size) → Named A t i size
named_subtree table tree A t e f = accepting.rejected_named table tree A t e f

-- A tree has a state exactly if some run over it ends in one of the automaton's states.
pub has_state_reaches : (A : Automaton) (t : Tree) → (has_state A t ≡ true) ↔ ((q : ℕ) × (q < A.states) × Reaches A.rules t q)
has_state_reaches = runs.has_state_reaches

-- Each subtree stands where its top node does: its symbols, in postfix order, are the last ones up to that node.
pub subtree_symbols : (t s : Tree) (before after : List Tree) → subtrees t ≡ before ++ (s ∷ after)
    → take (length (postfix s)) (drop (suc (length before) - length (postfix s)) (postfix t)) ≡ postfix s
subtree_symbols = naming.subtree_symbols

-- Whether a tree is accepted, or the refusal, is read off what is found of it.
pub finding_acceptance : (table tree : List ℕ) → map_read is_accepted (finding table tree) ≡ acceptance table tree
finding_acceptance = accepting.finding_acceptance

-- One walk: after the table is judged, what a check finds is 8, then the node limit, then folding `advance` over the symbols and `closing`. So the
-- answer of the call and its counts are those of the walk. What the walk holds between nodes is in the theorems of `trees`.
pub one_walk : (table tree : List ℕ) → finding table tree ≡ judge table >>= (λ (A : Automaton). walk_finding A tree)
one_walk = accepting.finding_walks

pub check_walks : (counts : Counts) (table tree : List ℕ) (r : Checked) → Checks counts table tree r
    → let walked = judge table >>= (λ (A : Automaton). walk_finding A tree) in
    (finding_of r.answer ≡ walked) × (r.counts ≡ counted counts (map_read is_accepted walked))
check_walks counts table tree r c =
    (c.subtree ∙ one_walk table tree, rw (← one_walk table tree, finding_acceptance table tree) c.counts_after)

-- A table that is not refused gets an answer to each query: the relation query where the output has room, the pair query for its states.
module _ (table : List ℕ) (A : Automaton) (judged : judge table ≡ found A) where
  pub relation_answers : (out : List ℕ) → 32 * A.states ≤ length out
      → relation_query table out ≡ found (record { rounds = rounds_of A; pairs = length (simulation_of A) })
  relation_answers out = queries.query_found table out A (judged_well_formed table A judged) judged

  pub pair_answers : (q r : ℕ) → q < A.states → r < A.states → pair_query table q r ≡ found (related (simulation_of A) q r)
  pair_answers q r = queries.pair_found table q r A judged

-- The relation query writes 32 bytes for each state; bit r mod 8 of byte r div 8 in row q is 1 exactly if q ≤ r.
module _ (A : Automaton) (w : WellFormed A) where
  pub relation_length : length (relation_bytes A) ≡ 32 * A.states
  relation_length = queries.length_bytes A w

  pub relation_bit : (q r : ℕ) → q < A.states → r < 256
      → (get_or (relation_bytes A) (32 * q + r / 8) 0 / 2 ^ (r % 8) % 2 ≡ 1) ↔ (related (simulation_of A) q r ≡ true)
  relation_bit = queries.relation_bit A w

-- The pairs that it counts are those with q ≤ r, each once.
module _ (A : Automaton) where
  pub pairs_members : (q r : ℕ) → Memᴰ (q, r) (simulation_of A) ↔ (related (simulation_of A) q r ≡ true)
  pairs_members q r = (refinement.member_related, refinement.related_member (simulation_of A) q r)

  pub pairs_once : Distinct (simulation_of A)
  pairs_once = queries.relation_once A

  -- A rule that the pair query names has no match under ≤.
  pub unmatched_rule : {q r i : ℕ} (u : Unmatched A q r i)
      → Matched (λ (p s : ℕ). related (simulation_of A) p s ≡ true) A.rules r u.rule → ⊥
  unmatched_rule {r = r} u m =
      true≢false (sym (refinement.matched_in A.rules (simulation_of A) r u.rule m) ∙ u.unmatched)

-- Refusals: of a tree by 8 to 11, of a check by these or the table's 1 to 7, of a query by the table's or by 13 and 12.
pub tree_causes : (ranks b : List ℕ) (cause : ℕ) → judge_tree ranks b ≡ refused cause → (8 ≤ cause) × (cause ≤ 11)
tree_causes ranks b cause = cause_of (causes.tree_causes ranks b)

pub acceptance_causes : (table tree : List ℕ) (cause : ℕ) → acceptance table tree ≡ refused cause → (1 ≤ cause) × (cause ≤ 11)
acceptance_causes table tree cause = cause_of (causes.acceptance_causes table tree)

pub relation_causes : (table out : List ℕ) (cause : ℕ) → relation_query table out ≡ refused cause
    → ((1 ≤ cause) × (cause ≤ 7)) ⊎ (cause ≡ 13)
relation_causes table out cause = cause_of (causes.relation_causes table out)

pub pair_causes : (table : List ℕ) (q r cause : ℕ) → pair_query table q r ≡ refused cause → ((1 ≤ cause) × (cause ≤ 7)) ⊎ (cause ≡ 12)
pair_causes table q r cause = cause_of (causes.pair_causes table q r)

-- A relation query that refuses leaves the output. Checks and pair queries are lent nothing that they could change.
pub relation_leaves : (table out : List ℕ) (cause : ℕ) → relation_query table out ≡ refused cause → relation_after (judge table) out ≡ out
relation_leaves = causes.relation_keeps
