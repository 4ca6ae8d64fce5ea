-- The nodes in the rest of the body are still to be walked.
use Rattle.std.proofs.Common.{◌≡◌, ◌≤◌, ◌+◌, ◌*◌, length}
use Rattle.records.specs.Bytes.{numbers}
use Rattle.trees.specs.Walk.{advance_all}
use Rattle.trees.proofs.evaluation.Evaluator.evaluate.Given as goal

abbrev pub invariant-loop-symbol : goal.invariant-loop-symbol
invariant-loop-symbol g l = record {
  pairs : l.symbol-iterator.size ≡ 2;
  count : 2 * l.walk.nodes + length l.symbol-iterator.rest.now ≡ 2 * l.fn.walk.nodes + length l.b;
  room : 2 * length l.walk.stack + length l.symbol-iterator.rest.now ≤ 2 * length l.fn.walk.stack + length l.b;
  left : advance_all l.self l.fn.walk (numbers l.b) ≡ advance_all l.self l.walk (numbers l.symbol-iterator.rest.now);
}
