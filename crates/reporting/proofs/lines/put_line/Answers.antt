use Rattle.std.proofs.Common.{arith, refl}
use Rattle.std.proofs.lemmas.List.{drop_all}
use Rattle.records.proofs.Pens.{all_left, next_left, last_left}
use Rattle.reporting.specs.Report.{numbers_in, line}
use Rattle.reporting.proofs.Text.{next_left_number}
use Rattle.reporting.proofs.lines.put_line.Goals as goal

pub loop-v-init : goal.loop-v-init
unfolding line
loop-v-init c = next_left (all_left c.requires) _ _ refl c.put.ensures

pub loop-v-preserved : goal.loop-v-preserved
loop-v-preserved c =
    next_left c.loop-v.invariant _ _ (next_left_number c.args.numbers.now c.loop-v.v-index (omega arith)) c.put_number.ensures

pub returns : goal.returns
unfolding numbers_in
returns c = last_left (rw (drop_all c.loop-v.v-index c.args.numbers.now c.loop-v-test.false) at c.loop-v.invariant) c.put-2.ensures
