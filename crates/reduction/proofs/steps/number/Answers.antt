-- The names are the places of the states that are left.
use Rattle.std.proofs.Common.{◌∙◌}
use Rattle.reduction.proofs.steps.EachStep.{numbered_is}
use Rattle.reduction.proofs.steps.number.Goals as goal

pub new-requires : goal.new-requires
new-requires c =
    rw (
      numbered_is _ _ _ c.work.invariant.sound _ c.number_states-names.ensures.numbered c.args.ranks.now _ _ _ c.len.ensures c.rename_rules.ensures
          c.rename_set.ensures,
      c.work.view_is,
    )
    c.requires

pub returns : goal.returns
returns c =
    c.new.ensures ∙ rw (← c.work.view_is)
    (numbered_is _ _ _ c.work.invariant.sound _ c.number_states-names.ensures.numbered c.args.ranks.now _ _ _ c.len.ensures c.rename_rules.ensures
    c.rename_set.ensures)
