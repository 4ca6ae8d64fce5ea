use Rattle.std.proofs.Common.{◌∙◌, refl, sym}
use Rattle.lists.proofs.Elements.{all_first, all_rest}
use Rattle.sets.specs.Inner.{with_all, set_of}
use Rattle.automaton.proofs.Chunks.{next_number, no_number}
use Rattle.automaton.proofs.row.Children.{low_number}
use Rattle.automaton.proofs.decoding.set_of.Goals as goal

pub loop-q-init : goal.loop-q-init
unfolding set_of
loop-q-init c =
    let items = c.chunks_exact-q-items.ensures in
    rw (c.into_iter-q-iterator.ensures.into_iter_gives, items.rest, items.size, c.empty-set.ensures) (refl, c.requires, refl)

pub loop-q-preserved : goal.loop-q-preserved
unfolding with_all
loop-q-preserved c =
    let next = next_number c.loop-q.q-iterator c.next.new.self c.loop-q.invariant.0 c.in-Some.q c.in-Some.ensures.steps in
    let low = low_number c.in-Some.q.now (all_first (rw next.1 at c.loop-q.invariant.1)) in
    (next.0, all_rest (rw next.1 at c.loop-q.invariant.1), rw (c.insert.ensures, low) (c.loop-q.invariant.2 ∙ rw next.1))

pub returns : goal.returns
unfolding with_all
returns c =
    let rest = no_number c.loop-q.q-iterator c.next.new.self c.loop-q.invariant.0 c.in-None.ensures.steps in
    sym (c.loop-q.invariant.2 ∙ rw rest)
