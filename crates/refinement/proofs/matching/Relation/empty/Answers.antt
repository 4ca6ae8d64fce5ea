use Rattle.std.proofs.Common.{◌∙◌}
use Rattle.sets.proofs.EntrySets.{entry_repeated}
use Rattle.refinement.proofs.RelationRows.{relation_none}
use Rattle.refinement.proofs.matching.Relation.empty.Goals as goal

pub returns : goal.returns
returns c = relation_none _ (λ q h. entry_repeated 256 q _ h ∙ c.empty.ensures)
