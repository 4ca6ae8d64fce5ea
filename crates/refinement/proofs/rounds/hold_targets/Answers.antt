use Rattle.std.proofs.Common.{◌<◌, length, arith, sym, ap, ap₂, ◌∙◌, List, ℕ}
use Rattle.sets.specs.Set.{member, with_state}
use Rattle.sets.proofs.EntrySets.{entry_read}
use Rattle.sets.proofs.StateSets.{member_empty}
use Rattle.refinement.proofs.RuleRows.{rules_more}
use Rattle.refinement.proofs.rounds.Replacing.{target_none, hold_next}
use Rattle.refinement.proofs.rounds.hold_targets.Goals as goal

pub loop-rule-init : goal.loop-rule-init
loop-rule-init c f h r b = ap (λ (set : List ℕ). member set r) (c.requires f h) ∙ member_empty r b ∙ sym (target_none f r)

pub loop-rule-preserved : goal.loop-rule-preserved
loop-rule-preserved c =
    let room : c.from.result < length c.loop-rule.holders = omega arith in
    rw (rules_more c.args.others.now c.loop-rule.rule-index c.rule-item.result c.loop-rule-test.true c.rule-item.is)
    (hold_next _ _ c.loop-rule.holders c.from.result c.insert.new.self (c.from.ensures ∙ c.symbol.ensures) room
    (c.insert.ensures ∙ ap₂ with_state (entry_read c.loop-rule.holders _ _ room) c.target.ensures)
    c.loop-rule.invariant)
