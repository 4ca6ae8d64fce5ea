use Rattle.std.proofs.Common.{◌≡◌, ◌∙◌, sym}
use Rattle.sets.proofs.StateSets.{same_pairs, same_set_out}
use Rattle.reduction.proofs.growth.Growing.{between_finals, between_next, between_settled, between_ended}
use Rattle.reduction.proofs.growth.grow.Goals as goal

pub loop-init : goal.loop-init
loop-init g c S sound e has = between_finals g.met.W.Way.laws S sound _ has

pub loop-preserved : goal.loop-preserved
loop-preserved g c S sound e has =
    between_next g.met.W.Way.laws S sound c.loop.counter c.loop.set.words (c.loop.invariant S sound e has) _ (rw e at c.grow_once-grown.ensures)

pub returns-after-loop : goal.returns-after-loop
returns-after-loop g c S sound e has =
    between_ended g.met.W.Way.laws S sound c.loop.counter c.loop.set.words c.loop-test.false (c.loop.invariant S sound e has)

pub returns-then-eq : goal.returns-then-eq
returns-then-eq g c S sound e has =
    let same : c.grow_once-grown.result.words ≡ c.loop.set.words =
    same_set_out _ _ c.grow_once-grown.result.four c.loop.set.four (sym (same_pairs c.grow_once-grown.result c.loop.set) ∙ sym c.if-eq.ensures) in
    between_settled g.met.W.Way.laws S sound c.loop.counter c.loop.set.words (c.loop.invariant S sound e has)
    (rw (same, e) at c.grow_once-grown.ensures)
