-- The report on what is taken of the input stands at the start of the buffer.
use Rattle.std.proofs.Common.{[], refl, zero-add}
use Rattle.lists.proofs.Overwriting.{over_behind}
use Rattle.reporting.specs.Report.{report}
use Rattle.reporting.proofs.lines.report.Goals as goal

pub returns : goal.returns
unfolding report
returns c = record {
  value = rw (c.place.ensures, c.put_report.ensures, c.new-pen.ensures, c.first.ensures) (zero-add _);
  out_after = rw (c.put_report.ensures, c.new-pen.ensures, c.first.ensures) (over_behind [] _ _ 0 refl);
}
