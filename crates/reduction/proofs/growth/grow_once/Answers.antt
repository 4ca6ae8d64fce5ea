use Rattle.std.proofs.Common.{arith}
use Rattle.std.proofs.lemmas.List.{take_all}
use Rattle.refinement.proofs.RuleRows.{rules_more}
use Rattle.reduction.proofs.growth.Growing.{row_low, pass_none, pass_next}
use Rattle.reduction.proofs.growth.grow_once.Goals as goal

pub loop-rule-init : goal.loop-rule-init
loop-rule-init g c = pass_none _

pub loop-rule-preserved : goal.loop-rule-preserved
loop-rule-preserved g c =
    rw (rules_more c.args.rules.now c.loop-rule.rule-index c.rule-item.result c.loop-rule-test.true c.rule-item.is)
    (pass_next g.met.W.Way.laws _ _ (row_low c.rule-item.result) _ _ _ c.loop-rule.invariant c.add-grown.ensures)

pub returns : goal.returns
returns g c =
    rw (← take_all c.loop-rule.rule-index c.args.rules.now (omega arith)) c.loop-rule.invariant
