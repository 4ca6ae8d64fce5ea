use Rattle.std.proofs.Common.{◌∙◌, ap, not, rules, tests}
use Rattle.std.proofs.lemmas.Iterator.{YieldsList-from_slice}
use Rattle.std.proofs.lemmas.Iterator.Adapters.{serves_from_places}
use Rattle.std.proofs.lemmas.Iterator.Search.{any_from_yields_List}
use Rattle.lists.proofs.Search.{any_listed}
use Rattle.automaton.specs.Row.{rules_of}
use Rattle.reduction.specs.Inner.{goes_at}
use Rattle.reduction.proofs.marking.Marks.{alike_at, alike_decide}
use Rattle.reduction.proofs.marking.stays.Goals as goal

pub any-requires-clause-callable : goal.any-requires-clause-callable
any-requires-clause-callable g c =
    serves_from_places (YieldsList-from_slice c.args.numbers.now cc) (λ x q k. search rules) (λ x k l h.
    let (inside, same) = alike_at c.args.rules.now c.args.i c.args.numbers.now c.requires.numbers k x.now l h in search (rules, inside, same))

pub returns : goal.returns
returns g c =
    ap not (any_from_yields_List (goes_at g.W.Why.goes_for c.args.relation.now (rules_of c.args.rules.now) c.args.i) _ _ _
    c.any.ensures.ran (YieldsList-from_slice c.args.numbers.now cc) (λ x b q k. search (rules, tests)) ∙ any_listed _ _)
    ∙ alike_decide g.W.Why.goes_for g.met.W.Why.same_target _ _ _ _ c.requires.numbers
