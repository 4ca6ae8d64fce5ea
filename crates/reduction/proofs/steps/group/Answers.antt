-- The names are the representatives, and of equal renamed rules the first stay.
use Rattle.std.proofs.Common.{rules}
use Rattle.stages.proofs.Quotient.{quotient_sound}
use Rattle.reduction.proofs.steps.EachStep.{grouped_is}
use Rattle.reduction.proofs.steps.group.Goals as goal

pub returns : goal.returns
returns c =
    let e = rw (← c.work.view_is) at c.requires in
    rw (← c.work.view_is)
    (grouped_is _ _ _ c.work.invariant.sound _ (rw e at c.name_blocks-names.ensures.named) _ _ _
    c.rename_rules.ensures c.keep_staying.ensures.rules _ _ c.rename_set.ensures c.rename_set-2.ensures)

pub invariant_of-result : goal.invariant_of-result
invariant_of-result c = record {
  sound = rw (returns c) (quotient_sound c.args.work (rw c.work.view_is at c.work.invariant.sound));
  few = search rules;
}
