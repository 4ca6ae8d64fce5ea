-- What the search finds below q, or q, is the first state of all that is equivalent to q.
use Rattle.std.proofs.Common.{◌∙◌, refl, arith, rules, tests}
use Rattle.std.proofs.lemmas.Iterator.{YieldsList-from_range}
use Rattle.std.proofs.lemmas.Iterator.Search.{find_from_yields_List}
use Rattle.stages.specs.Steps.{equivalent}
use Rattle.reduction.proofs.blocks.Naming.{found_first}
use Rattle.reduction.proofs.blocks.representative.Goals as goal

pub returns-clause-value : goal.returns-clause-value
unfolding equivalent
returns-clause-value c self =
    let found = find_from_yields_List (equivalent c.args.relation.now c.args.q) _ _ c.find.result c.find.ensures.ran
    (YieldsList-from_range 0 c.args.q c.args.q refl (omega arith)) (λ x b q k. search (rules, tests)) in
    c.unwrap_or.ensures ∙ found_first (equivalent c.args.relation.now c.args.q) c.find.result c.args.q (omega arith) found self
