-- Steps 3 to 5 leave a stage whose rules and final states name only its states. For `Sizes`, `Agreement` and the reduction's steps.
use Rattle.stages.specs.Steps.{Stage, below, quotient, pruned, shortened}
use Rattle.stages.specs.Inner.{Sound}
use Rattle.stages.proofs.Quotient.{quotient_sound}
use Rattle.stages.proofs.Pruning.{pruned_sound}
use Rattle.stages.proofs.Restricting.{restricted_sound}

-- The stages after steps 3 and 4.
abbrev pub stage3 : Stage → Stage
stage3 S = quotient (below S) S

abbrev pub stage4 : Stage → Stage
stage4 S = pruned (below S) (stage3 S)

module _ (S : Stage) (sound : Sound S) where
  pub sound_pruned : Sound (pruned (below S) (quotient (below S) S))
  sound_pruned = pruned_sound (below S) (stage3 S) (quotient_sound S sound)

  pub sound_shortened : Sound (shortened S)
  unfolding shortened
  sound_shortened = restricted_sound (stage4 S) sound_pruned
