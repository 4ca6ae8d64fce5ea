-- The rules from the index on are still to be written.
use Rattle.std.proofs.Common.{drop}
use Rattle.records.proofs.Pens.{Left}
use Rattle.automaton.specs.Row.{rules_of}
use Rattle.automaton.specs.Table.{encode_rules}
use Rattle.automaton.proofs.writing.put_rules.Given as goal

abbrev pub invariant-loop-rule : goal.invariant-loop-rule
invariant-loop-rule l =
    Left (encode_rules (rules_of l.rules)) l.initial.pen l.pen (encode_rules (rules_of (drop l.rule-index l.rules)))
