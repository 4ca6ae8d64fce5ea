-- The undominated rules stay.
use Rattle.std.proofs.Common.{refl, rules}
use Rattle.stages.specs.Steps.{pruned}
use Rattle.stages.proofs.Pruning.{pruned_sound}
use Rattle.reduction.proofs.steps.EachStep.{staying_undominated}
use Rattle.reduction.proofs.steps.prune.Goals as goal

pub returns : goal.returns
unfolding pruned
returns c = rw (← c.work.view_is, c.keep_staying.ensures.rules, staying_undominated) refl

pub invariant_of-result : goal.invariant_of-result
invariant_of-result c = record {
  sound = rw (returns c) (pruned_sound _ c.args.work (rw c.work.view_is at c.work.invariant.sound));
  few = search rules;
}
