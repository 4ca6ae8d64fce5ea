-- A turn numbers the next state.
use Rattle.std.proofs.Common.{◌≡◌, [], refl, arith}
use mathlib.Core.Logic.{inl}
use Rattle.std.specs.Iterator.Adapters.{enumerate_source}
use Rattle.sets.specs.Inner.{states_left}
use Rattle.reduction.proofs.blocks.Naming.{states_few, numbered_none, number_low, numbered_more, numbered_all}
use Rattle.reduction.proofs.blocks.number_states.Goals as goal

pub loop-i-init : goal.loop-i-init
loop-i-init c =
    let few = states_few c.args.states.words in
    let counted = c.enumerate-i-items.ensures in
    rw (c.into_iter-i-iterator.ensures.into_iter_gives, counted.source, counted.count, c.states.ensures)
    ((tt, tt, inl (omega arith)), tt, numbered_none _ _ refl)

pub overflow_cast-names : goal.overflow_cast-names
overflow_cast-names c =
    let step = c.in-Some.ensures.steps in
    omega (arith, step.1, number_low c.loop-i.invariant.2 c.in-Some.q _ step.0)

pub loop-i-preserved : goal.loop-i-preserved
loop-i-preserved c =
    let step = c.in-Some.ensures.steps in (
      c.in-Some.ensures.goes.keeps,
      tt,
      rw step.2 (numbered_more c.loop-i.invariant.2 c.in-Some.q _ step.0 _ _ c.from.ensures step.1),
    )

pub returns-clause-low : goal.returns-clause-low
returns-clause-low c = c.loop-i.invariant.2.low.low

pub returns-clause-numbered : goal.returns-clause-numbered
returns-clause-numbered c =
    let none : states_left (enumerate_source c.loop-i.i-iterator) ≡ [] = c.in-None.ensures.steps.0.0 in
    numbered_all c.loop-i.invariant.2 none
