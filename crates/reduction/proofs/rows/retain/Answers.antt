use Rattle.std.proofs.Common.{◌∙◌, ap, sym, arith}
use Rattle.automaton.specs.Row.{rule_of}
use Rattle.reduction.proofs.rows.Compacting.{retained_none, retained_skip, rule_there, retained_keep}
use Rattle.reduction.proofs.rows.retain.Goals as goal
use Rattle.reduction.proofs.rows.retain.Goals.{then-passes, else-passes}

pub loop-i-init : goal.loop-i-init
loop-i-init g c = record { few = omega arith; retained = λ test agrees. retained_none test _ }

pub loop-i-preserved : goal.loop-i-preserved
loop-i-preserved g c =
    let few = c.loop-i.invariant.few in
    elim c.if-passes.branch [
      | then-passes w ↦ record {
        few = omega (arith, w.kept-is);
        retained = λ test agrees.
            let before = c.loop-i.invariant.retained test agrees in
            let there = rule_there test _ before (omega arith) (omega arith) _ c.index-rules-i.is in
            rw (w.rules-is, w.kept-is)
            (retained_keep test _ before (omega arith) (omega arith) _ w.index-rules-i-then-passes.is
            (sym (agrees _ _ _ c.passes.ensures (omega arith) (there ∙ ap rule_of c.index-rules-i.is)) ∙ w.if-passes.true));
      }
      | else-passes w ↦ record {
        few = omega (arith, w.kept-is);
        retained = λ test agrees.
            let before = c.loop-i.invariant.retained test agrees in
            let there = rule_there test _ before (omega arith) (omega arith) _ c.index-rules-i.is in
            rw (w.rules-is, w.kept-is)
            (retained_skip test _ before (sym (agrees _ _ _ c.passes.ensures (omega arith) (there ∙ ap rule_of c.index-rules-i.is)) ∙ w.if-passes.false));
      }
    ]
