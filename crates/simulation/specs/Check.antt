-- A check: the answer and the new counts, from the counts, the table's bytes and the tree's bytes.
use Rattle.std.specs.Prelude.{ℕ, ◌+◌, min, ◌≡◌, Bool, true, false, List}
use Rattle.records.specs.Read.{Read, found, refused, ◌>>=◌}
use Rattle.automaton.specs.Table.{judge}
use Rattle.trees.specs.Tree.{accepts}
use Rattle.trees.specs.Postfix.{judge_tree}
use Rattle.trees.specs.Subtree.{Finding, finding_in}
use Rattle.trees.specs.Answers.{acceptance_of, finding_of}
use Rattle.simulation.specs.declared.checking.Checked.{Checked}
use Rattle.simulation.specs.declared.checking.Counts.{Counts}

-- The table is judged before the tree.
unfoldable pub acceptance : List ℕ → List ℕ → Read Bool
acceptance table tree = do
  A ← judge table
  t ← judge_tree A.ranks tree
  found (accepts A t)

-- The same, and of a tree that is not accepted the subtree to look at.
unfoldable pub finding : List ℕ → List ℕ → Read Finding
finding table tree = do
  A ← judge table
  t ← judge_tree A.ranks tree
  found (finding_in A t)

-- The counts: zero when fresh; one more of its answer with each check, up to the 32-bit ceiling.
abbrev pub fresh : Counts
fresh = record { accepted = 0; rejected = 0; refused = 0 }

abbrev pub more : ℕ → ℕ
more count = min (count + 1) 4294967295

unfoldable pub counted : Counts → Read Bool → Counts
counted c (found true) = record { accepted = more c.accepted; rejected = c.rejected; refused = c.refused }
counted c (found false) = record { accepted = c.accepted; rejected = more c.rejected; refused = c.refused }
counted c (refused cause) = record { accepted = c.accepted; rejected = c.rejected; refused = more c.refused }

-- A check of a tree against a table.
pub record Checks (counts : Counts) (table tree : List ℕ) (r : Checked) : Type 0 where
  pub answer : acceptance_of r.answer ≡ acceptance table tree
  pub counts_after : r.counts ≡ counted counts (acceptance table tree)
  pub subtree : finding_of r.answer ≡ finding table tree
