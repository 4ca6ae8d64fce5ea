use Rattle.std.proofs.Common.{ℕ, List, ◌≡◌, ◌∙◌, true, false, not, take, get_or, arith, sym, ap}
use Rattle.std.proofs.lemmas.List.{take_all}
use lib.Dec.{eqb}
use lib.Pointwise.{pointwise}
use borrow.Author.Tests.{not-true, not-false}
use Rattle.lists.specs.Lists.{any}
use Rattle.sets.specs.Set.{member}
use Rattle.sets.specs.Entries.{entry_at}
use Rattle.sets.specs.Inner.{Has}
use Rattle.sets.specs.declared.set.StateSet.{StateSet}
use Rattle.sets.proofs.EntrySets.{entry_read}
use Rattle.sets.proofs.StateSets.{same_pairs, same_set_out, sets_differ}
use Rattle.automaton.specs.Row.{rule_of, rules_of}
use Rattle.refinement.specs.Inner.{touches}
use Rattle.refinement.proofs.RuleRows.{rules_more, rule_in}
use Rattle.refinement.proofs.rounds.Underway.{rounded_none, rounded_pass, rounded_kept, rounded_fewer, rounded_all}
use Rattle.refinement.proofs.rounds.round.Goals as goal
use Rattle.refinement.proofs.rounds.round.Goals.{then-touched+then-ne, then-touched+else-ne, else-touched}

-- The row that was and the narrowed one.
module _ (now was : StateSet) {row : List ℕ} (is : was.words ≡ row) where
  same_row : false ≡ not (pointwise eqb now.words was.words) → now.words ≡ row
  same_row e = same_set_out now.words was.words now.four was.four (sym (same_pairs now was) ∙ not-false _ (sym e)) ∙ is

  other_row : true ≡ not (pointwise eqb now.words was.words) → Has now.words (member row) → ⊥
  other_row e = rw (← is) (sets_differ now.words was.words now.four was.four now.bits was.bits (sym (same_pairs now was) ∙ not-true _ (sym e)))

pub loop-rule-init : goal.loop-rule-init
loop-rule-init g c states a = rw c.empty-lost.ensures (rounded_none _ _ a.copied)

pub loop-rule-preserved : goal.loop-rule-preserved
unfolding touches
loop-rule-preserved g c states a =
    let known = a.targets _ (rule_in c.args.rules.now _ _ c.loop-rule-test.true c.rule-item.is) in
    let touched = touches c.args.changed.words in
    let others = rules_of c.args.others.now in
    let passed = rules_of (take c.loop-rule.rule-index c.args.rules.now) in
    let u = rule_of c.rule-item.result in
    let before = c.loop-rule.invariant states a in
    let children = ap (any (member c.args.changed.words)) c.children.ensures in
    rw (rules_more c.args.rules.now c.loop-rule.rule-index c.rule-item.result c.loop-rule-test.true c.rule-item.is)
    (elim c.if-touched.branch [
      | then-touched+then-ne w ↦
          let was = get_or c.loop-rule.next w.from.result w.index-next-from.result in
          let held = entry_read c.loop-rule.next w.from.result w.index-next-from.result (omega arith)
          ∙ ap (entry_at c.loop-rule.next) (w.from.ensures ∙ w.target-q.ensures) in
          let narrowed = rw held at w.narrow-narrowed.ensures in
          rw (w.next-is, w.lost-is, w.insert.ensures, w.from-then-ne.ensures, w.target-q.ensures)
          (rounded_fewer touched others passed u before w.narrow-narrowed.result (sym (w.if-touched.ensures ∙ children)) known.0 known.1 narrowed
          (omega arith) (other_row w.narrow-narrowed.result was held w.if-ne.ensures))
      | then-touched+else-ne w ↦
          let was = get_or c.loop-rule.next w.from.result w.index-next-from.result in
          let held = entry_read c.loop-rule.next w.from.result w.index-next-from.result (omega arith)
          ∙ ap (entry_at c.loop-rule.next) (w.from.ensures ∙ w.target-q.ensures) in
          let narrowed = rw held at w.narrow-narrowed.ensures in
          rw (w.next-is, w.lost-is)
          (rounded_kept touched others passed u before w.narrow-narrowed.result (sym (w.if-touched.ensures ∙ children)) known.0 known.1 narrowed
          (same_row w.narrow-narrowed.result was held w.if-ne.ensures))
      | else-touched w ↦ rw (w.next-is, w.lost-is) (rounded_pass touched others passed u before (sym (w.if-touched.ensures ∙ children)))
    ])

pub returns : goal.returns
returns g c states a quiet =
    let all : take c.loop-rule.rule-index c.args.rules.now ≡ c.args.rules.now = take_all c.loop-rule.rule-index c.args.rules.now (omega arith) in
    rounded_all _ _ _ quiet (rw all at (c.loop-rule.invariant states a))
