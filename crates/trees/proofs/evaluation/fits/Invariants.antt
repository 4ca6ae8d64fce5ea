-- The children that are left are still to be looked at.
use Rattle.std.proofs.Common.{◌≡◌, ◌≤◌, ◌&&◌, length}
use Rattle.trees.specs.Inner.{in_order}
use Rattle.trees.proofs.evaluation.fits.Given as goal

abbrev pub invariant-loop-tree : goal.invariant-loop-tree
invariant-loop-tree l = record {
  enough : length l.tree-iterator.b.rest.now ≤ length l.tree-iterator.a.rest.now;
  left : (l.all && in_order l.tree-iterator.a.rest.now l.tree-iterator.b.rest.now) ≡ in_order l.trees l.children;
}
