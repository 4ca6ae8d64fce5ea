-- The counts of the rows are few enough to be summed.
use Rattle.std.proofs.Common.{arith, rules, tests}
use Rattle.std.proofs.lemmas.Iterator.{YieldsList-from_slice, YieldsList-from_map}
use Rattle.std.proofs.lemmas.Iterator.Consumers.{fits_by_from_yields_list}
use Rattle.simulation.proofs.RelationBytes.{states_count, pairs_few}
use Rattle.simulation.proofs.query.count_pairs.Goals as goal

pub sum-requires-clause-fits : goal.sum-requires-clause-fits
sum-requires-clause-fits c =
    fits_by_from_yields_list states_count _ c.map.result _
    (YieldsList-from_map _ states_count (YieldsList-from_slice c.args.rows.now cc) c.map.ensures.closure (λ x r q k. search (rules, tests)))
    (omega (arith, pairs_few c.args.rows.now))
