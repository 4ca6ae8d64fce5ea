-- `fensullay::states::fensullay_relate` meets its contract.
use Rattle.std.proofs.Common.{◌≤◌, length, arith}
use Rattle.fensullay.specs.Exports.{relating}
use Rattle.fensullay.proofs.Exported.{too_few, answered_with}
use Rattle.fensullay.proofs.states.fensullay_relate.Goals as goal

pub returns-then-numbers-lt2 : goal.returns-then-numbers-lt2
unfolding relating
returns-then-numbers-lt2 c =
    let e = too_few _ _ _ _ _ _ c.if-numbers-lt2.true in
    record { value = e.0; numbers_after = e.1.0; out_after = e.1.1 }

pub returns : goal.returns
unfolding relating
returns c =
    let room : 2 ≤ length c.args.numbers.now = omega arith in
    let e =
    answered_with _ _ _ room _ _ c.map.ensures.cases c.relate.ensures.result_value c.answer.ensures.value
    c.answer.ensures.numbers_after c.relate.ensures.out_after in
    record { value = e.0; numbers_after = e.1.0; out_after = e.1.1 }
