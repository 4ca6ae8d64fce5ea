use Rattle.std.proofs.Common.{◌≡◌, ◌∙◌, ◌<◌, ℕ, Bool, false, List, length, get_or, length-set, arith, sym, ap}
use Rattle.lists.proofs.Arrays.{filled_more}
use Rattle.automaton.specs.Automaton.{Rule}
use Rattle.automaton.specs.Row.{rule_at, rules_of}
use Rattle.automaton.specs.declared.row.Row.{Row}
use Rattle.indexing.specs.Index.{keyed}
use Rattle.refinement.proofs.RuleRows.{rule_is}
use Rattle.reduction.specs.Inner.{marked, stays}
use Rattle.reduction.proofs.marking.mark_staying.Goals as goal

-- The target of rule i, as its row says it.
target_is : (rows : List Row) (i t : ℕ) (row : Row) → i < length rows → row ≡ get_or rows i row → t ≡ row.target
    → t ≡ (rule_at (rules_of rows) i).target
target_is rows i t row h is e = e ∙ sym (ap (λ (u : Rule). u.target) (rule_is rows i row h is))

pub stays-requires-clause-numbers : goal.stays-requires-clause-numbers
stays-requires-clause-numbers g c =
    c.numbers-numbers.ensures ∙ c.fill.ensures _ (omega arith)
    ∙ ap (keyed (λ (u : Rule). u.target) (rules_of c.args.rules.now))
    (target_is _ _ _ _ c.loop-i-test.true c.index-rules-i.is c.target.ensures)

pub loop-i-preserved : goal.loop-i-preserved
unfolding marked
loop-i-preserved g c =
    let long = c.loop-i.invariant.long in
    record {
      long = length-set c.loop-i.marks c.loop-i.i c.stays.result ∙ long;
      marks = filled_more (λ (j : ℕ) (t : Bool). t ≡ stays g.W.Why.goes_for c.args.relation.now (rules_of c.args.rules.now) j)
          false c.loop-i.marks c.loop-i.i c.stays.result (omega arith) c.loop-i.invariant.marks c.stays.ensures;
    }
