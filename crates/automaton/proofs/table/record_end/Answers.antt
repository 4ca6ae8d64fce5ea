-- No record is due, or its body decides.
use Rattle.std.proofs.Common.{Err, sym}
use Rattle.std.proofs.lemmas.Result.{err_from_is_err_and}
use Rattle.records.specs.Read.{◌>>=◌, ◌>>◌}
use Rattle.records.specs.Answers.{reading_of}
use Rattle.automaton.specs.Table.{judge_record}
use Rattle.automaton.proofs.table.record_end.Goals as goal

pub returns-in_err-end : goal.returns-in_err-end
unfolding reading_of judge_record ◌>>=◌
returns-in_err-end g c f reads =
    let p = err_from_is_err_and c.from_residual.result c.from_residual.ensures.1 in
    rw (p.1, p.2, ← c.in_err-end.ensures)

pub returns-in_err-judge : goal.returns-in_err-judge
unfolding reading_of judge_record ◌>>=◌ ◌>>◌
returns-in_err-judge g c f reads =
    let p = err_from_is_err_and c.from_residual-in_err-judge.result c.from_residual-in_err-judge.ensures.1 in
    rw (p.1, p.2, ← c.in_ok-end.ensures, sym (reads (Err c.in_err-judge.field-0.0) (c.body.result, c.in_err-judge.ensures, c.body.ensures)))

pub returns : goal.returns
unfolding reading_of judge_record ◌>>=◌ ◌>>◌
returns g c f reads = rw (← c.in_ok-end.ensures, sym (reads _ (c.body.result, c.in_ok-judge.ensures, c.body.ensures)))
