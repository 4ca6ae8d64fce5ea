-- The set that grows has the states that step 5 keeps.
use Rattle.std.proofs.Common.{◌∙◌, refl}
use Rattle.reduction.specs.Inner.{stage_of}
use Rattle.reduction.proofs.steps.StageSets.{states_has}
use Rattle.reduction.proofs.steps.EachStep.{finals_grown, restricted_is}
use Rattle.reduction.proofs.steps.restrict.Goals as goal

pub keep_named-requires-clause-finals : goal.keep_named-requires-clause-finals
keep_named-requires-clause-finals c =
    let S = stage_of c.work.inside in
    let sound = c.work.invariant.sound in
    finals_grown S sound _ (c.grow-states.ensures S sound refl (states_has _))

pub returns : goal.returns
returns c =
    let S = stage_of c.work.inside in
    let sound = c.work.invariant.sound in
    c.keep_named.ensures ∙ rw (← c.work.view_is) (restricted_is S sound _ (c.grow-states.ensures S sound refl (states_has _)))
