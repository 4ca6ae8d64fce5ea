-- The table is decoded, reduced and written, or the refusal handed on.
use Rattle.std.proofs.Common.{arith, sym, ◌∙◌}
use Rattle.std.specs.Prelude.{Err}
use Rattle.std.proofs.lemmas.Result.{err_from_is_err_and}
use Rattle.records.specs.Answers.{reading_of}
use Rattle.reduction.proofs.Answers.{reduce_refused, reduce_short, reduce_written}
use Rattle.reduction.proofs.Demand3.{promised}
use Rattle.reduction.proofs.reducing.reduce.Goals as goal

pub returns-in_err-decoded : goal.returns-in_err-decoded
unfolding reading_of
returns-in_err-decoded c =
    let q = err_from_is_err_and c.from_residual.result c.from_residual.ensures.1 in
    let p =
    promised _ _ _ (Err c.in_err-decoded.field-0.0) (λ i. omega (arith, c.type_inv.table i))
    (reduce_refused _ _ _ (sym c.in_err-decoded.ensures)) in
    rw (q.1, q.2) (record { result_value = p.0; out_after = p.1.0; meets_demand3 = p.1.1 })

pub returns-in_err-length : goal.returns-in_err-length
unfolding reading_of
returns-in_err-length c =
    let q = err_from_is_err_and c.from_residual-in_err-length.result c.from_residual-in_err-length.ensures.1 in
    let p =
    promised _ _ _ (Err c.in_err-length.field-0.0) (λ i. omega (arith, c.type_inv.table i))
    (reduce_short _ _ _ c.in_ok-decoded.decoded _ (sym c.in_ok-decoded.ensures) (c.view.ensures ∙ c.reduce_table-short.ensures.table)
    c.in_err-length.ensures.out_after _ c.in_err-length.ensures.result_value) in
    rw (q.1, q.2) (record { result_value = p.0; out_after = p.1.0; meets_demand3 = p.1.1 })

pub returns : goal.returns
unfolding reading_of
returns c =
    let p =
    promised _ _ _ _ (λ i. omega (arith, c.type_inv.table i))
    (reduce_written _ _ _ c.in_ok-decoded.decoded _ (sym c.in_ok-decoded.ensures) (c.view.ensures ∙ c.reduce_table-short.ensures.table)
    c.in_ok-length.ensures.out_after _ c.in_ok-length.ensures.result_value c.size-old.ensures.value (rw (← c.view.ensures) at c.size.ensures.value)
    c.reduce_table-short.ensures.rounds) in
    record { result_value = p.0; out_after = p.1.0; meets_demand3 = p.1.1 }
