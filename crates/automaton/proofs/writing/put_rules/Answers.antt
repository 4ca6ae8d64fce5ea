use Rattle.std.proofs.Common.{arith}
use Rattle.std.proofs.lemmas.List.{drop_all}
use Rattle.records.proofs.Pens.{all_left, next_fits, next_left, none_left}
use Rattle.automaton.specs.Row.{rule_of}
use Rattle.automaton.specs.Table.{encode_rule, encode_rules}
use Rattle.automaton.proofs.writing.Parts.{next_rule}
use Rattle.automaton.proofs.writing.put_rules.Goals as goal

pub loop-rule-init : goal.loop-rule-init
loop-rule-init c = all_left c.requires

pub put_rule-requires : goal.put_rule-requires
put_rule-requires c =
    let first = next_rule c.args.rules.now _ _ c.loop-rule-test.true c.rule-item.is in
    omega (arith, next_fits c.loop-rule.invariant (encode_rule (rule_of c.rule-item.result)) _ first)

pub loop-rule-preserved : goal.loop-rule-preserved
loop-rule-preserved c =
    next_left c.loop-rule.invariant _ _ (next_rule c.args.rules.now _ _ c.loop-rule-test.true c.rule-item.is) c.put_rule.ensures

pub returns : goal.returns
unfolding encode_rules
returns c = none_left c.loop-rule.invariant (rw (drop_all c.loop-rule.rule-index c.args.rules.now c.loop-rule-test.false))
