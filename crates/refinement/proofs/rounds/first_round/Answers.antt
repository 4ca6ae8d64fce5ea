use Rattle.std.proofs.Common.{◌<◌, length, arith, ap, ap₂, ◌∙◌}
use Rattle.sets.specs.Set.{meet_of}
use Rattle.sets.specs.Entries.{entry_at}
use Rattle.sets.proofs.EntrySets.{entry_read}
use Rattle.refinement.proofs.RuleRows.{rules_more}
use Rattle.refinement.proofs.rounds.Replacing.{met_none, meet_next}
use Rattle.refinement.proofs.rounds.first_round.Goals as goal

pub loop-rule-init : goal.loop-rule-init
loop-rule-init c q h r b = met_none c.args.holders.now c.args.rows.now q r

pub loop-rule-preserved : goal.loop-rule-preserved
loop-rule-preserved c =
    let room : c.from-q.result < length c.loop-rule.rows = omega arith in
    rw (rules_more c.args.rules.now c.loop-rule.rule-index c.rule-item.result c.loop-rule-test.true c.rule-item.is)
    (meet_next _ _ c.args.holders.now c.args.rows.now c.loop-rule.rows c.from-q.result c.meet.result (c.from-q.ensures ∙ c.target.ensures) room
    (c.meet.ensures ∙ ap₂ meet_of (entry_read c.loop-rule.rows _ _ room)
    (entry_read c.args.holders.now _ _ (omega arith) ∙ ap (entry_at c.args.holders.now) (c.from.ensures ∙ c.symbol.ensures)))
    c.loop-rule.invariant)
