-- Rules of one symbol match where their children are paired.
use Rattle.std.proofs.Common.{sym, ◌∙◌}
use borrow.Author.Tests.{eq-eqb, ne_eqb}
use Rattle.lists.proofs.Booleans.{and_false_left, and_left}
use Rattle.refinement.specs.Simulation.{matched_by}
use Rattle.refinement.proofs.matching.Relation.matches.Goals as goal

pub returns-then-symbol : goal.returns-then-symbol
unfolding matched_by
returns-then-symbol c =
    let same = rw (c.symbol.ensures, c.symbol-2.ensures) at c.if-symbol.true in
    rw (c.children.ensures, c.children-then-symbol.ensures) at c.pairs.ensures ∙ sym (and_left _ (eq-eqb _ _ same))

pub returns-else-symbol : goal.returns-else-symbol
unfolding matched_by
returns-else-symbol c =
    let others = rw (c.symbol.ensures, c.symbol-2.ensures) at c.if-symbol.false in
    ne_eqb _ _ c.if-symbol.false ∙ sym (and_false_left _ (ne_eqb _ _ others))
