-- The search goes over the trees.
use Rattle.std.proofs.Common.{◌∙◌, rules}
use borrow.Author.Tests.{tests}
use Rattle.std.proofs.lemmas.Iterator.{YieldsList-from_slice}
use Rattle.std.proofs.lemmas.Iterator.Search.{any_from_yields_List}
use Rattle.lists.proofs.Search.{any_listed}
use Rattle.trees.proofs.evaluation.has_empty.Goals as goal

pub returns : goal.returns
returns c =
    any_from_yields_List _ _ _ _ c.any.ensures.ran (YieldsList-from_slice c.args.trees.now cc) (λ x b q k. search (rules, tests))
    ∙ any_listed _ c.args.trees.now
