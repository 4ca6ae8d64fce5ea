use Rattle.std.proofs.Common.{arith}
use Rattle.reduction.specs.Inner.{name_in}
use Rattle.reduction.proofs.rows.Compacting.{renamed_next}
use Rattle.reduction.proofs.rows.rename_rules.Goals as goal

pub loop-rule-preserved : goal.loop-rule-preserved
unfolding name_in
loop-rule-preserved c =
    renamed_next _ _ c.loop-rule.invariant (omega arith) (omega arith) c.rule-item.result c.renamed.result c.rule-item.is c.renamed.ensures
