use Rattle.std.proofs.Common.{◌≡◌, ◌^◌, ◌∙◌, arith, rules}
use Rattle.std.proofs.lemmas.Iterator.{YieldsList-from_slice}
use Rattle.std.proofs.lemmas.Iterator.Adapters.{fits_from_length, at_most_from_yields_List}
use Rattle.std.specs.List.{sum_by}
use lib.Count.{ones}
use Rattle.sets.proofs.StateLists.{ones_set}
use Rattle.sets.proofs.set.StateSet.len.Goals as goal

pub sum-requires-clause-fits : goal.sum-requires-clause-fits
sum-requires-clause-fits c =
    fits_from_length _ _ 4 (2 ^ 64) (at_most_from_yields_List (YieldsList-from_slice c.args.self.words cc) (omega (arith, c.args.self.four))) c.map.ensures.closure (omega arith)
    (λ x r q k. search rules)

pub returns : goal.returns
returns c =
    let summed : c.sum.result ≡ sum_by ones c.args.self.words = search rules in
    summed ∙ ones_set c.args.self.words c.args.self.four c.args.self.bits
