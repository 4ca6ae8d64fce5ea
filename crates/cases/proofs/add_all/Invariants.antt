-- The checksum of the bytes so far.
use Rattle.std.proofs.Common.{◌≡◌, ◌<◌, take}
use Rattle.std.specs.List.{fold}
use Rattle.cases.specs.declared.TheConstants.{MODULUS}
use Rattle.cases.specs.Checksum.{more}
use Rattle.cases.proofs.add_all.Given as goal

-- it stays below the modulus
abbrev pub invariant-loop-x : goal.invariant-loop-x
invariant-loop-x l = (l.sum < MODULUS) × (l.sum ≡ fold more l.initial.sum (take l.x-index l.b))
