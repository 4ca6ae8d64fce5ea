-- Where the table is not refused and the room suffices, the relation's rows are written and their states counted.
use Rattle.std.proofs.Common.{sym, arith, ◌∙◌}
use Rattle.std.proofs.lemmas.List.{length-take}
use Rattle.std.proofs.lemmas.Result.{err_from_is_err_and}
use Rattle.records.specs.Answers.{reading_of}
use Rattle.simulation.proofs.Queries.{states_of, query_refused, query_short, query_written}
use Rattle.simulation.proofs.query.relate.Goals as goal

pub returns-in_err-decoded : goal.returns-in_err-decoded
unfolding reading_of
returns-in_err-decoded c =
    let p = err_from_is_err_and c.from_residual.result c.from_residual.ensures.1 in
    let (value, after) = query_refused _ c.args.out.now _ c.in_err-decoded.ensures in
    record { result_value = rw (p.1, p.2) value; out_after = after }

pub overflow_mul-n : goal.overflow_mul-n
overflow_mul-n c = omega (arith, states_of _ _ c.size-n.ensures.value, c.size-n.ensures.well_formed.states)

pub returns-then-out-n : goal.returns-then-out-n
unfolding reading_of
returns-then-out-n c =
    let n = states_of _ _ c.size-n.ensures.value in
    let (value, after) = query_short _ _ _ c.size-n.ensures.well_formed (sym c.in_ok-decoded.ensures) (omega arith) in
    record { result_value = value; out_after = after }

pub shared_ref_as_front-related : goal.shared_ref_as_front-related
shared_ref_as_front-related c = omega (arith, states_of _ _ c.size-n.ensures.value, c.size-n.ensures.well_formed.states)

pub count_pairs-requires : goal.count_pairs-requires
count_pairs-requires c =
    omega (
      arith,
      states_of _ _ c.size-n.ensures.value,
      c.size-n.ensures.well_formed.states,
      length-take c.size-n.result.states c.rows.result.now,
    )

pub returns : goal.returns
unfolding reading_of
returns c =
    let n = states_of _ _ c.size-n.ensures.value in
    let (value, after) =
    query_written _ _ _ c.size-n.ensures.well_formed (sym c.in_ok-decoded.ensures) c.rows.result.now _ _ _ (omega arith)
    (omega (arith, length-take c.size-n.result.states c.rows.result.now)) (c.rows.ensures ∙ c.simulate_all-rounds.ensures.relation_after) c.simulate_all-rounds.ensures.value (rw n at c.put_rows.ensures)
    (rw n at c.count_pairs.ensures) in
    record { result_value = value; out_after = after }
