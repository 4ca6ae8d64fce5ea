-- By whether the other stands before it and has its symbol.
use Rattle.std.proofs.Common.{◌∙◌, sym, ap₂}
use mathlib.Core.Bool.{false≢true}
use lib.Dec.{eqb}
use lib.Pointwise.{pointwise}
use Rattle.lists.proofs.Booleans.{and_left, and_false_left, and_false_right}
use Rattle.reduction.proofs.marking.Marks.{repeats_compared}
use Rattle.reduction.proofs.marking.RepeatedWhy.goes.Goals as goal
use Rattle.reduction.proofs.marking.RepeatedWhy.goes.Goals.{then-is_before, else-is_before}

pub returns-then-symbol : goal.returns-then-symbol
returns-then-symbol c =
    c.eq.ensures
    ∙ ap₂ (pointwise eqb) c.children.ensures c.children-then-symbol.ensures
    ∙ sym (repeats_compared _ _ _ _ c.requires
    ∙ elim c.if-is_before.branch [
      | then-is_before w ↦
          and_left _ w.if-is_before.true
          ∙ and_left _ (sym (ap₂ eqb w.symbol.ensures w.symbol-then-is_before.ensures) ∙ sym w.value-is ∙ c.if-symbol.true)
      | else-is_before w ↦ absurd (false≢true (sym w.if-is_before.false ∙ sym w.value-is ∙ c.if-symbol.true))
    ])

pub returns-else-symbol : goal.returns-else-symbol
returns-else-symbol c =
    c.if-symbol.false
    ∙ sym (repeats_compared _ _ _ _ c.requires
    ∙ elim c.if-is_before.branch [
      | then-is_before w ↦
          and_false_right _ (and_false_left _ (sym (ap₂ eqb w.symbol.ensures w.symbol-then-is_before.ensures) ∙ sym w.value-is ∙ c.if-symbol.false))
      | else-is_before w ↦ and_false_left _ w.if-is_before.false
    ])
