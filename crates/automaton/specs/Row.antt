-- Decoded rules.
use Rattle.std.specs.Prelude.{ℕ, List, [], map, take, get_or}
use Rattle.automaton.specs.Automaton.{Rule}
use Rattle.automaton.specs.declared.row.Row.{Row}

abbrev pub rule_of : Row → Rule
rule_of row = record { symbol = row.symbol; target = row.target; children = take row.rank row.children }

-- The rules of some rows.
abbrev pub rules_of : List Row → List Rule
rules_of rows = map rule_of rows

-- Rule i of some rules. The rule without children is never read: the contracts that cite it ask that there is a rule i.
unfoldable pub rule_at : List Rule → ℕ → Rule
rule_at rules i = get_or rules i (record { symbol = 0; target = 0; children = [] })
