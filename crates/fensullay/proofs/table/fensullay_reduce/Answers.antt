-- `fensullay::table::fensullay_reduce` meets its contract.
use Rattle.std.proofs.Common.{◌≤◌, length, arith}
use Rattle.fensullay.specs.Exports.{reducing}
use Rattle.fensullay.proofs.Exported.{too_few, answered_with}
use Rattle.fensullay.proofs.table.fensullay_reduce.Goals as goal

pub returns-then-numbers-lt6 : goal.returns-then-numbers-lt6
unfolding reducing
returns-then-numbers-lt6 c =
    let e = too_few _ _ _ _ _ _ c.if-numbers-lt6.true in
    record { value = e.0; numbers_after = e.1.0; out_after = e.1.1 }

pub returns : goal.returns
unfolding reducing
returns c =
    let room : 6 ≤ length c.args.numbers.now = omega arith in
    let e =
    answered_with _ _ _ room _ _ c.map.ensures.cases c.reduce.ensures.result_value c.answer.ensures.value
    c.answer.ensures.numbers_after c.reduce.ensures.out_after in
    record { value = e.0; numbers_after = e.1.0; out_after = e.1.1 }
