-- None where the pair is in the relation, and otherwise the first rule without a match.
use Rattle.std.proofs.Common.{sym, ap, ◌∙◌, arith}
use Rattle.refinement.specs.Simulation.{Relation, related}
use Rattle.simulation.specs.Query.{simulation_of, compared_by, is_yes}
use Rattle.simulation.proofs.Queries.{first_answers}
use Rattle.simulation.proofs.query.compare_states.Goals as goal

pub returns-then-has : goal.returns-then-has
unfolding is_yes compared_by
returns-then-has c = record {
  verdict = sym c.if-has.true ∙ c.has.ensures ∙ ap (λ (R : Relation). related R c.args.q c.args.r) c.simulate_all.ensures.relation_after;
  first = λ i f. cc;
}

pub first_unmatched-requires : goal.first_unmatched-requires
first_unmatched-requires c = rw c.rules.ensures c.simulate_all.ensures.indexed

pub returns : goal.returns
unfolding simulation_of
returns c =
    let after = c.simulate_all.ensures.relation_after in
    let out = sym (c.has.ensures ∙ ap (λ (R : Relation). related R c.args.q c.args.r) after) ∙ c.if-has.false in
    first_answers _ _ _ _ (omega arith) (omega arith) _ out (rw (after, c.rules.ensures) at c.first_unmatched.ensures)
