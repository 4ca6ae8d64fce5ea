-- The numbers that are left are still to be added.
use Rattle.std.proofs.Common.{◌≡◌, ℕ, ◌<◌}
use Rattle.std.specs.Slice.Iter.{chunks_exact_rest, chunks_exact_size}
use Rattle.lists.specs.Lists.{All}
use Rattle.sets.specs.Inner.{with_all, set_of}
use Rattle.records.specs.Bytes.{numbers}
use Rattle.automaton.proofs.decoding.set_of.Given as goal

abbrev pub invariant-loop-q : goal.invariant-loop-q
invariant-loop-q l =
    (chunks_exact_size l.q-iterator ≡ 2) × All (λ (q : ℕ). q < 256) (numbers (chunks_exact_rest l.q-iterator))
    × (set_of (numbers l.b) ≡ with_all l.set.words (numbers (chunks_exact_rest l.q-iterator)))
