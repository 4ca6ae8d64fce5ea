-- What an exported check gives: of arrays that are too short, of arrays with room, and the subtree of one that is not accepted. From the laws of
-- `exported` and the theorems on checks; for `fensullay_check` and Theorems.
use Prim.Native.Nat.{ℕ, ◌≤◌, ◌<◌}
use native.Mathlib.Decide.{dec_le}
use native.Mathlib.Omega.{arith}
use mathlib.Core.Path.{◌≡◌, refl, ◌∙◌}
use mathlib.Core.Logic.{◌⊎◌, inl, inr}
use mathlib.Core.Bool.{Bool, false, true≢false}
use mathlib.Core.List.{List}
use lib.ListN.{length}
use borrow.Author.Tests.{le-leb, lt-leb}
use Rattle.records.specs.Read.{Read, found}
use Rattle.records.proofs.Reading.{bind_found, map_found}
use Rattle.automaton.specs.Automaton.{Automaton}
use Rattle.automaton.specs.Table.{judge}
use Rattle.trees.specs.Tree.{Tree}
use Rattle.trees.specs.Postfix.{judge_tree}
use Rattle.trees.specs.Subtree.{Finding, accepted, rejected, is_accepted}
use Rattle.simulation.specs.Check.{acceptance, finding, counted}
use Rattle.simulation.proofs.Theorems.{finding_acceptance, named_subtree}
use Rattle.fensullay.specs.Exports.{ended, exported, yes_no, counts_in, counts_numbers, subtree_after, checking}
use Rattle.fensullay.specs.Means.{NamesSubtree}
use Rattle.fensullay.proofs.Exported.{Gives, enough_room, too_few}

-- A tree that is not accepted is read, and a subtree of it is named.
pub rejected_found : (table tree : List ℕ) → acceptance table tree ≡ found false → NamesSubtree table tree
unfolding finding is_accepted
rejected_found table tree out =
    let (f, is, rejects) = map_found is_accepted (finding table tree) (finding_acceptance table tree ∙ out) in
    let (A, judged, later) = bind_found (judge table) _ is in
    let (t, read, _) = bind_found (judge_tree A.ranks tree) _ later in
    go A t judged read f is rejects
  where
    go : (A : Automaton) (t : Tree) → judge table ≡ found A → judge_tree A.ranks tree ≡ found t → (f : Finding) → finding table tree ≡ found f
        → is_accepted f ≡ false → NamesSubtree table tree
    go A t judged read accepted is rejects = absurd (true≢false rejects)
    go A t judged read (rejected i size) is rejects = record {
      automaton = A;
      read = t;
      is_automaton = judged;
      is_read = read;
      node = i;
      size = size;
      is_found = is;
      named = named_subtree table tree A t judged read is;
    }

module _ (counts table tree numbers : List ℕ) where
  pub check_roomy : 2 ≤ length numbers
      → checking counts table tree numbers
      ≡ exported 3 yes_no (λ (answer : Read Bool). counts_numbers (counted (counts_in counts) answer)) (found (acceptance table tree)) counts numbers
      (subtree_after (finding table tree) numbers)
  unfolding checking
  check_roomy h = rw (le-leb 2 (length numbers) h)

  pub check_few : (length counts < 3) ⊎ (length numbers < 2) → Gives (checking counts table tree numbers) 100 counts numbers
  unfolding checking
  check_few short = elim (dec_le 2 (length numbers)) [
    | yes l ↦ rw (le-leb 2 (length numbers) l) (too_few _ _ _ _ _ _ (of_counts l short))
    | no g ↦ rw (lt-leb 2 (length numbers) (omega arith)) (refl, (refl, refl))
  ]
    where
      of_counts : 2 ≤ length numbers → (length counts < 3) ⊎ (length numbers < 2) → length counts < 3
      of_counts l (inl h) = h
      of_counts l (inr h) = absurd (omega arith)

  pub check_subtree : 3 ≤ length counts → 2 ≤ length numbers → (checking counts table tree numbers).out ≡ subtree_after (finding table tree) numbers
  unfolding ended
  check_subtree h l = rw (check_roomy l, enough_room {need = 3} _ _ _ counts _ _ h)
