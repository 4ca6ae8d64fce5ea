-- Two numbers of two bytes, one after the other.
use Rattle.std.proofs.Common.{rules}
use Rattle.records.specs.Bytes.{number2, number4}
use Rattle.records.proofs.bytes.number4.Goals as goal

pub returns : goal.returns
unfolding number2 number4
returns c = search rules
