use Rattle.std.proofs.Common.{◌∙◌, rules, tests}
use Rattle.lists.proofs.Search.{any_listed}
use Rattle.std.proofs.lemmas.Iterator.{YieldsList-from_slice}
use Rattle.std.proofs.lemmas.Iterator.Search.{any_from_yields_List}
use Rattle.sets.specs.Set.{member}
use Rattle.sets.proofs.set.StateSet.has_any.Goals as goal

pub returns : goal.returns
returns c =
    any_from_yields_List (member c.args.self.now.words) _ _ _ c.any.ensures.ran (YieldsList-from_slice c.args.states.now cc)
    (λ x b q k. search (rules, tests)) ∙ any_listed _ _
