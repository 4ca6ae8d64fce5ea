-- Step 1 leaves the trimmed stage, on which step 2 may work, and steps 3 to 5 the shortened one, which step 6 numbers.
use Rattle.std.proofs.Common.{◌≡◌, ap, rules}
use Rattle.automaton.specs.Automaton.{Automaton, WellFormed}
use Rattle.stages.specs.Steps.{shortened, reduce, reduction_rounds}
use Rattle.stages.proofs.Sizes.{reduce_well_formed}
use Rattle.reduction.proofs.steps.EachStep.{trimmed_simulable}
use Rattle.reduction.proofs.steps.reduce_table.Goals as goal

pub simulate_left-rounds-requires : goal.simulate_left-rounds-requires
simulate_left-rounds-requires c =
    rw c.trim-trimmed.ensures (trimmed_simulable c.args.table (rw c.table.view_is at c.table.invariant.0))

pub number-requires : goal.number-requires
unfolding reduce shortened
number-requires c =
    let w : WellFormed c.args.table = rw c.table.view_is at c.table.invariant.0 in
    let ranks : c.table.inside.ranks.now ≡ c.args.table.ranks = ap (λ (A : Automaton). A.ranks) c.table.view_is in
    let h = reduce_well_formed c.args.table w in
    search rules

pub returns-clause-table : goal.returns-clause-table
unfolding reduce shortened
returns-clause-table c =
    let ranks : c.table.inside.ranks.now ≡ c.args.table.ranks = ap (λ (A : Automaton). A.ranks) c.table.view_is in
    search rules

pub returns-clause-rounds : goal.returns-clause-rounds
unfolding reduction_rounds
returns-clause-rounds c = search rules
