-- A refused table has one line; of another the numbers are those of the four.
use Rattle.std.proofs.Common.{arith, sym}
use Rattle.records.specs.Answers.{reading_of}
use Rattle.reporting.specs.Report.{refused_word}
use Rattle.reporting.proofs.Reporting.{report_refused, report_found, report_of_short}
use Rattle.reporting.proofs.lines.put_report.Goals as goal

pub put_line-requires : goal.put_line-requires
unfolding refused_word reading_of
put_line-requires c =
    rw (c.from.ensures, report_refused _ _ (sym (rw c.in-Err.is at c.decode.ensures))) (omega (arith, report_of_short c.args.table.now))

pub returns-in-Err : goal.returns-in-Err
unfolding refused_word reading_of
returns-in-Err c = rw (c.from.ensures, report_refused _ _ (sym (rw c.in-Err.is at c.decode.ensures))) at c.put_line.ensures

pub put_reduced-requires : goal.put_reduced-requires
unfolding reading_of
put_reduced-requires c =
    rw (
      c.size-old.ensures.value,
      c.size.ensures.value,
      c.reduce_table-short.ensures.table,
      c.reduce_table-short.ensures.rounds,
      report_found _ _ (sym (rw c.in-Ok.is at c.decode.ensures)),
    )
    (omega (arith, report_of_short c.args.table.now))

pub returns-in-Ok : goal.returns-in-Ok
unfolding reading_of
returns-in-Ok c =
    rw (
      c.size-old.ensures.value,
      c.size.ensures.value,
      c.reduce_table-short.ensures.table,
      c.reduce_table-short.ensures.rounds,
      report_found _ _ (sym (rw c.in-Ok.is at c.decode.ensures)),
    ) at c.put_reduced.ensures
