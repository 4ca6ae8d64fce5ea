-- By whether the other matches.
use Rattle.std.proofs.Common.{◌∙◌, List, ℕ, not, sym, ap₂}
use lib.Dec.{eqb}
use lib.Pointwise.{pointwise}
use Rattle.lists.proofs.Booleans.{and_left, and_false_left}
use Rattle.reduction.proofs.marking.Marks.{dominates_compared}
use Rattle.reduction.proofs.marking.DominatedWhy.goes.Goals as goal

pub returns-then-matches : goal.returns-then-matches
returns-then-matches c =
    c.ne.ensures
    ∙ ap₂ (λ (qs rs : List ℕ). not (pointwise eqb qs rs)) c.children.ensures c.children-then-matches.ensures
    ∙ sym (dominates_compared _ _ _ c.args._is_before c.requires ∙ and_left _ (sym c.if-matches.ensures))

pub returns-else-matches : goal.returns-else-matches
returns-else-matches c =
    c.if-matches.false ∙ sym (dominates_compared _ _ _ c.args._is_before c.requires ∙ and_false_left _ (sym c.if-matches.ensures))
