use Rattle.std.proofs.Common.{◌∙◌, ap}
use Rattle.sets.specs.Set.{same_set}
use Rattle.sets.proofs.StateSets.{same_pairs}
use Rattle.sets.proofs.set.StateSet.is_empty.Goals as goal

pub returns : goal.returns
returns c =
    c.eq.ensures ∙ same_pairs c.args.self c.empty.result ∙ ap (same_set c.args.self.words) c.empty.ensures
