-- Each return is one of the cases of `opened`.
use Rattle.std.proofs.Common.{arith, sym, ◌∙◌}
use borrow.Author.Tests.{eqb-true, eqb-false}
use Rattle.records.specs.Answers.{opening_of}
use Rattle.records.proofs.Opening.{opened_empty, opened_whole, opened_short, opened_past, opened_few}
use Rattle.records.proofs.record.open.Goals as goal
use Rattle.records.proofs.record.open.Goals.{then-length-lt2-via-then-length-lt2, then-length-lt2-via-else-length-lt2+then-t-length}

pub returns-then-is_empty : goal.returns-then-is_empty
unfolding opening_of
returns-then-is_empty c = sym (opened_empty c.args.t.now (eqb-true _ 0 (sym c.is_empty.ensures ∙ c.if-is_empty.true)))

pub returns-then-t-lt6 : goal.returns-then-t-lt6
unfolding opening_of
returns-then-t-lt6 c =
    sym (opened_few c.args.t.now (eqb-false _ 0 (sym c.is_empty.ensures ∙ c.if-is_empty.false)) c.if-t-lt6.true)

pub returns-then-length-lt2 : goal.returns-then-length-lt2
unfolding opening_of
returns-then-length-lt2 c =
    elim c.then-length-lt2.branch [
      | then-length-lt2-via-then-length-lt2 w ↦ sym (opened_short c.args.t.now (omega arith) (omega arith))
      | then-length-lt2-via-else-length-lt2+then-t-length w ↦ sym (opened_past c.args.t.now (omega arith) (omega arith))
    ]

pub returns : goal.returns
unfolding opening_of
returns c = rw (c.number2.ensures, c.number4-length.ensures) (sym (opened_whole c.args.t.now (omega arith) (omega arith)))
