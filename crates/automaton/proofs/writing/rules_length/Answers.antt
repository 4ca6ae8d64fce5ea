-- The sum goes over the rows, ten bytes and two for each child of a rule.
use Rattle.std.proofs.Common.{◌≡◌, ◌+◌, ◌*◌, ◌∙◌, length, arith, rules}
use Rattle.std.specs.List.{sum_by}
use Rattle.automaton.specs.Row.{rule_of}
use Rattle.automaton.specs.declared.row.Row.{Row}
use Rattle.automaton.proofs.writing.Parts.{rules_sum, rules_most}
use Rattle.automaton.proofs.writing.rules_length.Goals as goal

pub returns : goal.returns
returns c =
    let summed : c.sum.result ≡ sum_by (λ (row : Row). 10 + 2 * length (rule_of row).children) c.args.rules.now = search rules in
    let value = summed ∙ rules_sum c.args.rules.now in
    record { value = value; upper_bound = omega (arith, rules_most c.args.rules.now) }
