-- Where the table is not refused and has both states, the answer is that of the states' comparison.
use Rattle.std.proofs.Common.{sym, arith}
use mathlib.Core.Logic.{inl, inr}
use Rattle.std.proofs.lemmas.Result.{err_from_is_err_and}
use Rattle.records.specs.Answers.{reading_of}
use Rattle.simulation.proofs.Queries.{states_of, compares_refused, compares_outside, compares_by}
use Rattle.simulation.proofs.query.compare.Goals as goal
use Rattle.simulation.proofs.query.compare.Goals.{then-q-n-via-then-q-n, then-q-n-via-else-q-n+then-r-n}

pub returns-in_err-decoded : goal.returns-in_err-decoded
unfolding reading_of
returns-in_err-decoded c =
    let p = err_from_is_err_and c.from_residual.result c.from_residual.ensures.1 in
    rw (p.1, p.2) (compares_refused _ _ _ _ c.in_err-decoded.ensures)

pub returns-then-q-n : goal.returns-then-q-n
unfolding reading_of
returns-then-q-n c =
    let n = states_of _ _ c.size-n.ensures.value in
    compares_outside _ _ _ _ (sym c.in_ok-decoded.ensures)
    (elim c.then-q-n.branch [
      | then-q-n-via-then-q-n w ↦ inl (rw n at w.if-q-n.true)
      | then-q-n-via-else-q-n+then-r-n w ↦ inr (rw n at w.if-r-n.true)
    ])

pub overflow_cast-q : goal.overflow_cast-q
overflow_cast-q c = omega (arith, states_of _ _ c.size-n.ensures.value, c.size-n.ensures.well_formed.states)

pub overflow_cast-r : goal.overflow_cast-r
overflow_cast-r c = omega (arith, states_of _ _ c.size-n.ensures.value, c.size-n.ensures.well_formed.states)

pub compare_states-requires : goal.compare_states-requires
compare_states-requires c =
    let n = states_of _ _ c.size-n.ensures.value in
    (omega arith, omega arith)

pub returns : goal.returns
unfolding reading_of
returns c =
    let n = states_of _ _ c.size-n.ensures.value in
    compares_by _ _ _ _ (sym c.in_ok-decoded.ensures) (omega arith) (omega arith) _ c.compare_states.ensures
