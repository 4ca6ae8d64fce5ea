use Rattle.std.proofs.Common.{◌≡◌, ◌<◌, ◌&&◌, ℕ, Bool, List, not, length, get_or, arith, sym, ap, ◌∙◌}
use lib.Dec.{eqb}
use lib.Pointwise.{pointwise}
use Rattle.lists.specs.Lists.{among, any}
use Rattle.sets.specs.Set.{member, same_set}
use Rattle.sets.specs.Entries.{entry_at}
use Rattle.sets.specs.declared.set.StateSet.{StateSet}
use Rattle.sets.proofs.EntrySets.{entry_read}
use Rattle.sets.proofs.StateSets.{member_empty, same_pairs}
use Rattle.sets.proofs.StateLoops.{states_passed, among_done, passed_in, passed_out}
use Rattle.refinement.specs.Inner.{Copied}
use Rattle.refinement.proofs.RelationRows.{related_in}
use Rattle.refinement.proofs.rounds.Replacing.{replaced_none, replaced_more, replaced_in}
use Rattle.refinement.proofs.rounds.copy_rows.Goals as goal

-- Whether the row of a state is not all of a set.
test_at : (rows : List StateSet) (n q : ℕ) (row states : StateSet) {t : Bool} → n ≡ q → n < length rows
    → t ≡ not (pointwise eqb (get_or rows n row).words states.words) → not (same_set (entry_at rows q) states.words) ≡ t
test_at rows n q row states e h t =
    rw (← e) (ap (λ (set : List ℕ). not (same_set set states.words)) (sym (entry_read rows n row h))
    ∙ ap not (sym (same_pairs (get_or rows n row) states)) ∙ sym t)

pub loop-q-init : goal.loop-q-init
unfolding among any
loop-q-init c = record { copied = replaced_none _ _; noted = λ r h. rw c.empty-changed.ensures (member_empty r h) }

pub loop-q-preserved-then-ne : goal.loop-q-preserved-then-ne
loop-q-preserved-then-ne c = record {
  copied = replaced_more _ _ _ c.loop-q.invariant.copied c.from-in-loop-q.ensures (omega arith)
      (entry_read c.args.rows.now _ _ (omega arith) ∙ ap (entry_at c.args.rows.now) c.from.ensures);
  noted = rw c.insert.ensures
      (passed_in c.loop-q.changed.words c.loop-q.yielded (λ (q : ℕ). not (same_set (entry_at c.args.rows.now q) c.args.states.words))
      c.in-Some.q c.loop-q.invariant.noted
      (test_at c.args.rows.now c.from.result c.in-Some.q c.index-rows-from.result c.args.states c.from.ensures (omega arith)
      c.if-ne.ensures));
}

pub loop-q-preserved : goal.loop-q-preserved
loop-q-preserved c = record {
  copied = replaced_more _ _ _ c.loop-q.invariant.copied c.from-in-loop-q.ensures (omega arith)
      (entry_read c.args.rows.now _ _ (omega arith) ∙ ap (entry_at c.args.rows.now) c.from.ensures);
  noted = passed_out c.loop-q.changed.words c.loop-q.yielded (λ (q : ℕ). not (same_set (entry_at c.args.rows.now q) c.args.states.words))
      c.in-Some.q c.loop-q.invariant.noted
      (test_at c.args.rows.now c.from.result c.in-Some.q c.index-rows-from.result c.args.states c.from.ensures (omega arith)
      c.if-ne.ensures);
}

pub returns-clause-copied : goal.returns-clause-copied
unfolding Copied
returns-clause-copied c q h is r b =
    let p = states_passed c.args.states.words _ _ c.states-q-items.ensures c.into_iter-q-iterator.ensures.into_iter_gives c.loop-q.yielded_by in
    ap (λ (row : List ℕ). member row r) (replaced_in _ c.loop-q.invariant.copied (among_done p c.in-None.ensures.steps.0) q h is)
    ∙ sym (related_in c.args.rows.now q r h b)

pub returns-clause-has : goal.returns-clause-has
returns-clause-has c r h =
    let p = states_passed c.args.states.words _ _ c.states-q-items.ensures c.into_iter-q-iterator.ensures.into_iter_gives c.loop-q.yielded_by in
    c.loop-q.invariant.noted r h
    ∙ ap (λ (t : Bool). t && not (same_set (entry_at c.args.rows.now r) c.args.states.words)) (among_done p c.in-None.ensures.steps.0 r h)
