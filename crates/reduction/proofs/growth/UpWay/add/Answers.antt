-- Where all children are in the set, the target is added.
use mathlib.Core.Bool.{and-true}
use Rattle.reduction.proofs.growth.Growing.{member_more}
use Rattle.reduction.proofs.growth.UpWay.add.Goals as goal

pub returns-then-has_all : goal.returns-then-has_all
returns-then-has_all c r h =
    rw (c.with.ensures, c.target.ensures, ← c.children.ensures, ← c.if-has_all.ensures, and-true) (member_more _ _ r h)
