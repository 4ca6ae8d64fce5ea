-- The row's state is the pair.
use Rattle.std.proofs.Common.{arith, sym, ap, ◌∙◌, List, ℕ}
use Rattle.sets.specs.Set.{member}
use Rattle.sets.proofs.EntrySets.{entry_read}
use Rattle.refinement.specs.Simulation.{Relation, related}
use Rattle.refinement.proofs.RelationRows.{related_in}
use Rattle.refinement.proofs.matching.Relation.has.Goals as goal

pub returns : goal.returns
returns c =
    c.is_member.ensures ∙ ap (λ (row : List ℕ). member row c.args.r) (entry_read c.self.inside.rows _ _ (omega arith))
    ∙ rw c.from.ensures (sym (related_in c.self.inside.rows c.args.q c.args.r (omega arith) (omega arith)))
    ∙ ap (λ (R : Relation). related R c.args.q c.args.r) c.self.view_is
