-- All of a short input, and the start of a long one.
use Rattle.std.proofs.Common.{arith, ◌≡◌, min, length}
use Rattle.std.proofs.lemmas.List.{take_min}
use Rattle.reporting.proofs.lines.first.Goals as goal

pub returns : goal.returns
returns c =
    let e : c.min.result ≡ min 27417 (length c.args.input.now) = omega (arith, c.min.ensures) in
    rw e (take_min 27417 c.args.input.now)
