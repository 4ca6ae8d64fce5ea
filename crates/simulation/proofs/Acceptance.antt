-- The answer of a check: of a refused table, of a decoded one by its automaton, by the walk over a tree, and of a tree that is read; and acceptance,
-- read off what is found. From the table that is judged and the subtree that is named; for `check_tree_in`, `check` and the theorems on checks.
use Prim.Native.Nat.{ℕ, ◌*◌, ◌≤◌}
use mathlib.Core.Path.{◌≡◌, refl, sym, ap, ◌∙◌}
use mathlib.Core.Logic.{◌⊎◌, inl, inr, ◌↔◌}
use mathlib.Core.List.{List}
use mathlib.Core.Bool.{true, true≢false}
use lib.ListN.{length}
use Rattle.std.specs.Prelude.{Result, Ok, Err}
use Rattle.records.specs.Answers.{reading_of}
use Rattle.records.specs.Refusal.{number_of}
use Rattle.records.specs.Read.{Read, found, refused, ◌>>=◌, map_read}
use Rattle.records.specs.declared.refusal.Refusal.{Refusal}
use Rattle.records.proofs.Fields.{Bytes}
use Rattle.records.proofs.Reading.{refused≢found, found_same}
use Rattle.automaton.specs.Automaton.{Automaton, WellFormed}
use Rattle.automaton.specs.Table.{judge}
use Rattle.automaton.proofs.Encoding.{encode_judge, table_least}
use Rattle.automaton.proofs.Theorems.{judged_well_formed}
use Rattle.trees.specs.Tree.{Tree, accepts}
use Rattle.trees.specs.Postfix.{judge_tree}
use Rattle.trees.specs.Subtree.{rejected, is_accepted, finding_in, Named}
use Rattle.trees.specs.Answers.{is_acceptance, named_by, acceptance_of, finding_of}
use Rattle.trees.specs.declared.evaluation.Answer.{Answer}
use Rattle.trees.specs.declared.evaluation.Subtree.{Subtree}
use Rattle.trees.specs.declared.evaluation.Answer.TheVariants.{Accepted, Rejected}
use Rattle.trees.specs.Inner.{tree_finding}
use Rattle.trees.specs.Holds.{walk_finding}
use Rattle.trees.proofs.Naming.{named_subtree, finding_accepts}
use Rattle.trees.proofs.Theorems.{tree_walk}
use Rattle.simulation.specs.Check.{acceptance, finding}

-- The table and the tree.
pub table_refused : (table tree : List ℕ) (cause : Refusal) → refused (number_of cause) ≡ judge table
    → refused (number_of cause) ≡ finding table tree
unfolding finding ◌>>=◌
table_refused table tree cause e = rw (← e)

module _ (table : List ℕ) (A : Automaton) (e : judge table ≡ found A) where
  -- A rule takes ten bytes at least.
  pub few_rules : Bytes table → 10 * length A.rules ≤ length table
  few_rules bytes = rw (encode_judge table A bytes e) at (table_least A)

  pub table_found : (tree : List ℕ) → tree_finding A tree ≡ finding table tree
  unfolding tree_finding finding ◌>>=◌
  table_found tree = rw e

-- The tree by the walk.
pub finding_walks : (table tree : List ℕ) → finding table tree ≡ judge table >>= (λ (A : Automaton). walk_finding A tree)
unfolding finding tree_finding ◌>>=◌
finding_walks table tree = go (judge table) (judged_well_formed table)
  where
    go : (x : Read Automaton) → ((A : Automaton) → x ≡ found A → WellFormed A)
        → (x >>= (λ (A : Automaton). tree_finding A tree)) ≡ x >>= (λ (A : Automaton). walk_finding A tree)
    go (found A) wf = tree_walk A (wf A refl) tree
    go (refused cause) wf = refl

-- Whether a tree is accepted, read off what is found of it.
pub finding_acceptance : (table tree : List ℕ) → map_read is_accepted (finding table tree) ≡ acceptance table tree
unfolding finding acceptance map_read ◌>>=◌
finding_acceptance table tree = with_table (judge table)
  where
    with_tree : (A : Automaton) (x : Read Tree)
        → map_read is_accepted (x >>= (λ (t : Tree). found (finding_in A t))) ≡ x >>= (λ (t : Tree). found (accepts A t))
    with_tree A (found t) = ap found (finding_accepts A t)
    with_tree A (refused cause) = refl

    with_table : (x : Read Automaton)
        → map_read is_accepted (x >>= (λ (A : Automaton). judge_tree A.ranks tree >>= (λ (t : Tree). found (finding_in A t))))
        ≡ x >>= (λ (A : Automaton). judge_tree A.ranks tree >>= (λ (t : Tree). found (accepts A t)))
    with_table (found A) = with_tree A (judge_tree A.ranks tree)
    with_table (refused cause) = refl

pub answer_acceptance : (answer : Result Answer Refusal) (table tree : List ℕ) → finding_of answer ≡ finding table tree → acceptance_of answer ≡ acceptance table tree
answer_acceptance answer table tree e = go answer ∙ ap (map_read is_accepted) e ∙ finding_acceptance table tree
  where
    go : (answer : Result Answer Refusal) → acceptance_of answer ≡ map_read is_accepted (finding_of answer)
    go (Ok Accepted) = unfold acceptance_of finding_of reading_of is_acceptance named_by is_accepted map_read in refl
    go (Ok (Rejected s)) = unfold acceptance_of finding_of reading_of is_acceptance named_by is_accepted map_read in refl
    go (Err cause) = unfold acceptance_of finding_of reading_of map_read in refl

-- Of a tree that is read: accepted, or rejected with a subtree, as the automaton accepts it or not.
module _ (table tree : List ℕ) (A : Automaton) (t : Tree) (e : judge table ≡ found A) (f : judge_tree A.ranks tree ≡ found t) where
  pub acceptance_found : acceptance table tree ≡ found (accepts A t)
  unfolding acceptance ◌>>=◌
  acceptance_found = rw (e, f)

  pub finding_found : finding table tree ≡ found (finding_in A t)
  unfolding finding ◌>>=◌
  finding_found = rw (e, f)

  pub rejected_named : {i size : ℕ} → finding table tree ≡ found (rejected i size) → Named A t i size
  unfolding is_accepted
  rejected_named h =
      let is = found_same (sym finding_found ∙ h) in
      named_subtree A t (sym (finding_accepts A t) ∙ ap is_accepted is) is

  pub answer_found : (answer : Result Answer Refusal) → finding_of answer ≡ finding table tree
      → ((answer ≡ Ok Accepted) ⊎ ((s : Subtree) × (answer ≡ Ok (Rejected s)) × Named A t s.node s.size))
      × ((answer ≡ Ok Accepted) ↔ (accepts A t ≡ true))
  unfolding finding_of reading_of named_by is_accepted map_read
  answer_found (Ok Accepted) h =
      let yes : accepts A t ≡ true = sym (finding_accepts A t) ∙ ap is_accepted (sym (found_same (h ∙ finding_found))) in
      (inl refl, (λ _. yes, λ _. refl))
  answer_found (Ok (Rejected s)) h =
      let named = rejected_named (sym h) in
      (inr (s, refl, named), (λ (p : Ok (Rejected s) ≡ Ok Accepted). cc, λ yes. absurd (true≢false (sym yes ∙ named.not_accepted))))
  answer_found (Err cause) h = absurd (refused≢found (h ∙ finding_found))
