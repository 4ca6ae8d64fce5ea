-- The sum stays below the modulus, and the records so far and what is left lie within the bytes.
use Rattle.std.proofs.Common.{length, ◌+◌, ◌<◌, ◌≤◌}
use Rattle.cases.specs.declared.TheConstants.{MODULUS}
use Rattle.tables.proofs.case.records.Given as goal

abbrev pub invariant-loop-kind : goal.invariant-loop-kind
invariant-loop-kind g l = (l.sum < MODULUS) × (l.count + length l.rest ≤ length l.t)

abbrev pub decreases-loop-kind : goal.decreases-loop-kind
decreases-loop-kind g l = length l.rest
