-- Reduction: the six steps one after the other, and what the call returns.
use Rattle.std.specs.Prelude.{ℕ, List}
use Rattle.records.specs.Read.{Read, found, refused, ◌>>=◌}
use Rattle.records.specs.Output.{written, written_over}
use Rattle.automaton.specs.Automaton.{Automaton}
use Rattle.automaton.specs.Table.{judge, encode}
use Rattle.automaton.specs.Decoded.{size_of}
use Rattle.stages.specs.Steps.{reduce, reduction_rounds}
use Rattle.reduction.specs.declared.reducing.Reduction.{Reduction}

-- The length, the old and new n, m and k, the rounds; or the refusal. The table is judged before the output; 13 where that is shorter than the reduced table.
unfoldable pub reduction : List ℕ → List ℕ → Read Reduction
reduction table out = do
  A ← judge table
  size ← written (encode (reduce A)) out
  found (record { length = size; old = size_of A; new = size_of (reduce A); rounds = reduction_rounds A })

-- The output afterwards: the reduced table, with the old bytes after it; a refusal, 13 too, leaves it.
unfoldable pub reduction_after : Read Automaton → List ℕ → List ℕ
reduction_after (found A) out = written_over (encode (reduce A)) out
reduction_after (refused cause) out = out
