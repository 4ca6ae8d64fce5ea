-- A decoded table: what it holds, and its counts.
use Rattle.std.specs.Prelude.{ℕ, List, length}
use Rattle.sets.specs.Inner.{states_in}
use Rattle.records.specs.Read.{Read, map_read}
use Rattle.automaton.specs.Automaton.{Automaton}
use Rattle.automaton.specs.Row.{rules_of}
use Rattle.automaton.specs.declared.row.Row.{Row}
use Rattle.automaton.specs.declared.table.Size.{Size}
use Rattle.automaton.specs.declared.decoding.Table.TheInside.{Inside}

-- The counts n, m and k of an automaton, and of a table unless it is refused.
unfoldable pub size_of : Automaton → Size
size_of A = record { states = A.states; symbols = length A.ranks; rules = length A.rules }

unfoldable pub sized : Read Automaton → Read Size
sized = map_read size_of

-- The automaton that a decoded table holds: of its set those states are final that are below the number of states.
abbrev pub automaton_in : ℕ → List ℕ → List ℕ → List Row → Automaton
automaton_in states ranks finals rows = record { states = states; ranks = ranks; finals = states_in states finals; rules = rules_of rows }

abbrev pub automaton_of : Inside → Automaton
automaton_of t = automaton_in t.states t.ranks.now t.finals.words t.rules.now
