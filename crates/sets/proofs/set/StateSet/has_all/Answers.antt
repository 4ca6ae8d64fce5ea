use Rattle.std.proofs.Common.{◌∙◌, rules, tests}
use Rattle.lists.proofs.Search.{all_listed}
use Rattle.std.proofs.lemmas.Iterator.{YieldsList-from_slice}
use Rattle.std.proofs.lemmas.Iterator.Search.{all_from_yields_List}
use Rattle.sets.specs.Set.{member}
use Rattle.sets.proofs.set.StateSet.has_all.Goals as goal

pub returns : goal.returns
returns c =
    all_from_yields_List (member c.args.self.now.words) _ _ _ c.all.ensures.ran (YieldsList-from_slice c.args.states.now cc)
    (λ x b q k. search (rules, tests)) ∙ all_listed _ _
