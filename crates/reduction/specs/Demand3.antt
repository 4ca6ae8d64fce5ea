-- Demand 3, of the bytes: what holds of a table that was reduced into `out`, of the call's answer r, and of the bytes that it wrote; and what
-- the call promises.
use Rattle.std.specs.Prelude.{ℕ, ◌≤◌, ◌≡◌, ◌↔◌, List, ◌++◌, length, take, drop}
use Rattle.std.specs.Prelude.{Result, Ok, Err}
use Rattle.records.specs.Read.{found}
use Rattle.records.specs.declared.refusal.Refusal.{Refusal}
use Rattle.automaton.specs.Automaton.{Automaton}
use Rattle.automaton.specs.Table.{judge}
use Rattle.automaton.specs.Decoded.{size_of}
use Rattle.trees.specs.Tree.{Tree, Over}
use Rattle.trees.specs.Run.{Accepts}
use Rattle.simulation.specs.Check.{acceptance}
use Rattle.stages.specs.Steps.{reduction_rounds}
use Rattle.stages.specs.Irreducible.{Irreducible}
use Rattle.reduction.specs.Reduce.{reduction, reduction_after}
use Rattle.reduction.specs.declared.reducing.Reduction.{Reduction}

-- Handed in as the table, with some room, a table gives its own bytes and length, and loses no state, no symbol and no rule.
pub record Again (bytes room : List ℕ) : Type 0 where
  pub answer : Reduction
  pub is_answer : reduction bytes room ≡ found answer
  pub length_is : answer.length ≡ length bytes
  pub counts : answer.new ≡ answer.old
  pub writes : reduction_after (judge bytes) room ≡ bytes ++ drop (length bytes) room

pub record Demand3 (table out : List ℕ) (r : Reduction) (bytes : List ℕ) : Type 0 where
  -- Both are well-formed: they have none of causes 1 to 7.
  pub first : Automaton
  pub reduced : Automaton
  pub is_first : judge table ≡ found first
  pub is_reduced : judge bytes ≡ found reduced
  -- The answer's numbers are theirs; the length never exceeds the table's. In the output, which the call promises to be `reduction_after`, what
  -- stood after the bytes stays.
  pub length_is : length bytes ≡ r.length
  pub old : r.old ≡ size_of first
  pub new : r.new ≡ size_of reduced
  pub rounds : r.rounds ≡ reduction_rounds first
  pub no_longer : length bytes ≤ length table
  pub stays : reduction_after (judge table) out ≡ bytes ++ drop r.length out
  -- The number of symbols and their ranks stay.
  pub ranks : reduced.ranks ≡ first.ranks
  -- Both accept the same trees over the table's symbols, of any size. (Acceptance by runs is 01's "belongs to a final state": the
  -- simulation's theorems `belongs_reaches` and `accepted_runs`.)
  pub same_trees : (t : Tree) → Over first.ranks t → Accepts first t ↔ Accepts reduced t
  -- Whatever bytes are given as a tree, a check against either gives the same answer or refusal. What is counted depends on the answer
  -- alone: the theorems `same_counts` and `same_check` say that the counts are the same too, and both of two checks by the call.
  pub same_answer : (tree : List ℕ) → acceptance table tree ≡ acceptance bytes tree
  -- Every state takes part in an accepted tree, no two different states simulate each other, no rule stands twice or is dominated.
  pub irreducible : Irreducible reduced
  -- Reduced again means with an output not shorter than it.
  pub again : (room : List ℕ) → length bytes ≤ length room → Again bytes room

-- What the call promises of its answer and of the output afterwards: demand 3 of the bytes that it wrote; a refusal leaves the output.
unfoldable pub MeetsDemand3 : List ℕ → List ℕ → Result Reduction Refusal → List ℕ → Type 0
MeetsDemand3 table out (Ok r) after = Demand3 table out r (take r.length after)
MeetsDemand3 table out (Err cause) after = after ≡ out
