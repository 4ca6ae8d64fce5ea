-- What the contracts of the report's lines cite.
use Rattle.std.specs.Prelude.{ℕ, List, [], ◌∷◌, ◌++◌}
use Rattle.automaton.specs.declared.table.Size.{Size}
use Rattle.reporting.specs.Report.{line, reduced_word, states_word, rules_word, rounds_word}

-- The four lines on a table of one size and a reduced one of another.
unfoldable pub reduced_lines : Size → Size → ℕ → List ℕ
reduced_lines old new rounds =
    line reduced_word []
    ++ (line states_word (old.states ∷ new.states ∷ [])
    ++ (line rules_word (old.rules ∷ new.rules ∷ [])
    ++ line rounds_word (rounds ∷ [])))
