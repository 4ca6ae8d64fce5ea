-- What the code's answer to a tree says: accepted or not, and the subtree that it names.
use Rattle.std.specs.Prelude.{Bool, true, false, Result}
use Rattle.records.specs.Answers.{reading_of}
use Rattle.records.specs.Read.{Read, map_read}
use Rattle.records.specs.declared.refusal.Refusal.{Refusal}
use Rattle.trees.specs.Subtree.{Finding, accepted, rejected}
use Rattle.trees.specs.declared.evaluation.Answer.{Answer}
use Rattle.trees.specs.declared.evaluation.Answer.TheVariants.{Accepted, Rejected}

unfoldable pub is_acceptance : Answer → Bool
is_acceptance Accepted = true
is_acceptance (Rejected t) = false

unfoldable pub named_by : Answer → Finding
named_by Accepted = accepted
named_by (Rejected t) = rejected t.node t.size

unfoldable pub acceptance_of : Result Answer Refusal → Read Bool
acceptance_of r = map_read is_acceptance (reading_of r)

unfoldable pub finding_of : Result Answer Refusal → Read Finding
finding_of r = map_read named_by (reading_of r)
