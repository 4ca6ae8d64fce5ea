-- What is left of the body has the fields that are not taken yet.
use Rattle.std.proofs.Common.{◌≡◌}
use Rattle.std.specs.Iterator.Adapters.{enumerate_source, enumerate_count}
use Rattle.std.specs.Slice.Iter.{chunks_exact_rest, chunks_exact_size}
use Rattle.automaton.proofs.row.Children.{Taken}
use Rattle.automaton.proofs.row.Row.read.Given as goal

abbrev pub invariant-loop-i : goal.invariant-loop-i
invariant-loop-i l =
    (chunks_exact_size (enumerate_source l.i-iterator) ≡ 2)
    × Taken l.b l.children (enumerate_count l.i-iterator) (chunks_exact_rest (enumerate_source l.i-iterator))
