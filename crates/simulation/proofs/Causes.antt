-- With which causes a tree is refused, 8 to 11, and with which a check and the queries; and that a refusal leaves the output. By `search`, line
-- by line of the definitions; for the theorems.
use Prim.Native.Nat.{ℕ, ◌≤◌}
use native.Mathlib.Omega.{arith}
use mathlib.Core.Path.{◌≡◌, refl}
use mathlib.Core.Logic.{inr}
use mathlib.Core.List.{List, [], ◌∷◌}
use Rattle.records.specs.Read.{Read, found, refused, ◌>>=◌}
use Rattle.records.specs.Output.{written}
use Rattle.records.proofs.Causes.{Causes, finds, wider_causes, bind_causes, causes}
use Rattle.records.proofs.Buffers.{Keeps, then_keeps, written_keeps}
use Rattle.automaton.specs.Automaton.{Automaton}
use Rattle.automaton.specs.Table.{judge}
use Rattle.automaton.proofs.TableCauses.{table_causes, TableCauseOr, table_causes_or}
use Rattle.trees.specs.Tree.{Tree}
use Rattle.trees.specs.Postfix.{rank_on, push, push_all, single, judge_tree}
use Rattle.simulation.specs.Check.{acceptance}
use Rattle.simulation.specs.Query.{relation_query, relation_after, pair_query}

abbrev pub TreeCause : ℕ → Type 0
TreeCause cause = (8 ≤ cause) × (cause ≤ 11)

module _ (ranks : List ℕ) where
  push_causes : (stack : List Tree) (f : ℕ) → Causes TreeCause (push ranks stack f)
  unfolding push rank_on
  push_causes stack f = search causes depth 9

  push_all_causes : (stack : List Tree) (fs : List ℕ) → Causes TreeCause (push_all ranks stack fs)
  unfolding push_all
  push_all_causes stack [] = finds
  push_all_causes stack (f ∷ fs) = bind_causes (push_causes stack f) (λ next. push_all_causes next fs)

single_causes : (stack : List Tree) → Causes TreeCause (single stack)
unfolding single
single_causes [] = search causes
single_causes (t ∷ []) = finds
single_causes (t ∷ (s ∷ ts)) = search causes

pub tree_causes : (ranks b : List ℕ) → Causes TreeCause (judge_tree ranks b)
unfolding judge_tree
tree_causes ranks b = search (causes, push_all_causes, single_causes) depth 9

pub acceptance_causes : (table tree : List ℕ) → Causes (λ (cause : ℕ). (1 ≤ cause) × (cause ≤ 11)) (acceptance table tree)
unfolding acceptance
acceptance_causes table tree =
    bind_causes (wider_causes (λ cause p. omega arith) (table_causes table)) (λ A.
    bind_causes (wider_causes (λ cause p. omega arith) (tree_causes A.ranks tree)) (λ t. finds))

pub relation_causes : (table out : List ℕ) → Causes (TableCauseOr 13) (relation_query table out)
unfolding relation_query written
relation_causes table out = search (causes, table_causes_or 13, inr) depth 9

pub pair_causes : (table : List ℕ) (q r : ℕ) → Causes (TableCauseOr 12) (pair_query table q r)
unfolding pair_query
pair_causes table q r = search (causes, table_causes_or 12, inr) depth 9

pub relation_keeps : (table out : List ℕ) → Keeps (relation_query table out) (relation_after (judge table) out) out
unfolding relation_query relation_after ◌>>=◌
relation_keeps table out cause e = go (judge table) refl
  where
    go : (j : Read Automaton) → judge table ≡ j → relation_after j out ≡ out
    go (found A) f = then_keeps (written _ out) _ (written_keeps _ out) cause (rw f at e)
    go (refused other) f = refl
