use Rattle.std.proofs.Common.{arith, add-zero}
use lib.Seq.{get_or-drop}
use Rattle.records.specs.Bytes.{number2}
use Rattle.records.proofs.bytes.number2.Goals as goal

pub returns : goal.returns
unfolding number2
returns c = simp (get_or-drop, add-zero) (omega arith)
