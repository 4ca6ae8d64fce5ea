-- The marked rules are those that stay.
use Rattle.std.proofs.Common.{◌∙◌, ap, map, length, arith, rules}
use Rattle.lists.proofs.Keeping.{keep_agree}
use Rattle.lists.proofs.Ranges.{member_from}
use Rattle.indexing.proofs.Indexing.{rules_long}
use Rattle.automaton.specs.Row.{rule_at, rules_of}
use Rattle.reduction.specs.Inner.{marked, staying}
use Rattle.reduction.proofs.marking.keep_staying.Goals as goal

pub returns-clause-rules : goal.returns-clause-rules
unfolding staying marked
returns-clause-rules g c =
    rw (rules_long c.args.rules.now) (c.retain.ensures.rules (marked c.mark_staying-marks.result) (λ i row b f l is. search rules)
    ∙ ap (map (rule_at (rules_of c.args.rules.now))) (keep_agree _ _ _
    (λ i m. let low = member_from (length c.args.rules.now) 0 i m in c.mark_staying-marks.ensures i (omega arith))))
