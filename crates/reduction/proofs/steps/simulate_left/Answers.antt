use Rattle.stages.specs.Steps.{below, rounds_in}
use Rattle.reduction.proofs.steps.simulate_left.Goals as goal

pub returns-clause-value : goal.returns-clause-value
unfolding rounds_in
returns-clause-value c = rw (← c.work.view_is) c.simulate.ensures.value

pub returns-clause-relation_after : goal.returns-clause-relation_after
unfolding below
returns-clause-relation_after c = rw (← c.work.view_is) c.simulate.ensures.relation_after
