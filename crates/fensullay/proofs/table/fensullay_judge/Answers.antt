-- `fensullay::table::fensullay_judge` meets its contract.
use Rattle.std.proofs.Common.{◌≤◌, [], length, arith, refl}
use Rattle.fensullay.specs.Exports.{judging}
use Rattle.fensullay.proofs.Exported.{too_few, answered_with}
use Rattle.fensullay.proofs.table.fensullay_judge.Goals as goal

pub returns-then-numbers-lt3 : goal.returns-then-numbers-lt3
unfolding judging
returns-then-numbers-lt3 c =
    let e = too_few _ _ _ _ [] _ c.if-numbers-lt3.true in record { value = e.0; numbers_after = e.1.0 }

pub returns : goal.returns
unfolding judging
returns c =
    let room : 3 ≤ length c.args.numbers.now = omega arith in
    let e =
    answered_with _ _ [] room _ _ c.map.ensures.cases c.judge.ensures c.answer.ensures.value
    c.answer.ensures.numbers_after refl in
    record { value = e.0; numbers_after = e.1.0 }
