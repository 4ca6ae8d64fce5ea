-- A turn takes the next child.
use Rattle.std.proofs.Common.{arith, refl}
use Rattle.std.specs.Iterator.Adapters.{enumerate_source}
use Rattle.lists.proofs.Arrays.{part_to_end}
use Rattle.automaton.specs.Table.{rule_in}
use Rattle.automaton.proofs.Chunks.{next_number, no_number}
use Rattle.automaton.proofs.row.Children.{no_children, next_room, next_low, next_taken, all_taken, low_number, body_symbol, body_target}
use Rattle.automaton.proofs.row.Row.read.Goals as goal

pub loop-i-init : goal.loop-i-init
loop-i-init c =
    let chunks = c.chunks_exact.ensures in
    let counted = c.enumerate-i-items.ensures in
    rw (c.into_iter-i-iterator.ensures.into_iter_gives, counted.source, counted.count, chunks.rest, chunks.size, part_to_end)
    (refl, record { few = omega arith; room = refl; bytes = no_children; all = refl })

pub bounds-children-i : goal.bounds-children-i
bounds-children-i c =
    let step = c.in-Some.ensures.steps in
    let next = next_number (enumerate_source c.loop-i.i-iterator) (enumerate_source c.next.new.self) c.loop-i.invariant.0 c.in-Some.q step.0 in
    rw step.1 (next_room c.requires c.loop-i.invariant.1 _ _ next.1)

pub loop-i-preserved : goal.loop-i-preserved
loop-i-preserved c =
    let step = c.in-Some.ensures.steps in
    let next = next_number (enumerate_source c.loop-i.i-iterator) (enumerate_source c.next.new.self) c.loop-i.invariant.0 c.in-Some.q step.0 in
    let low = low_number c.in-Some.q.now (next_low c.requires c.loop-i.invariant.1 _ _ next.1) in
    (next.0, rw (step.1, step.2, low) (next_taken c.requires c.loop-i.invariant.1 _ _ next.1))

pub invariant_of-result-clause-rank_in : goal.invariant_of-result-clause-rank_in
invariant_of-result-clause-rank_in c = omega (arith, c.requires.few)

pub invariant_of-result-clause-room : goal.invariant_of-result-clause-room
invariant_of-result-clause-room c = c.loop-i.invariant.1.room

pub invariant_of-result-clause-numbers : goal.invariant_of-result-clause-numbers
invariant_of-result-clause-numbers c = (omega (arith, c.type_inv.b 0), omega (arith, c.type_inv.b 2))

pub invariant_of-result-clause-states : goal.invariant_of-result-clause-states
invariant_of-result-clause-states c = c.loop-i.invariant.1.bytes

pub returns : goal.returns
unfolding rule_in
returns c =
    let last = c.in-None.ensures.steps.0 in
    let none = no_number (enumerate_source c.loop-i.i-iterator) (enumerate_source c.next.new.self) c.loop-i.invariant.0 last in
    let children = all_taken c.requires c.loop-i.invariant.1 none in
    rw (body_symbol c.args.b.now c.requires, body_target c.args.b.now c.requires, children)
