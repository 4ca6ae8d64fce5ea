use Rattle.std.proofs.Common.{◌≡◌, ◌≤◌, Bool, ◌&&◌, length, get_or, length-drop, sym, ◌∙◌, ap, arith}
use mathlib.Core.Bool.{and_assoc, and-true}
use mathlib.Core.Logic.{inl, inr}
use borrow.Author.Tests.{eqb-true, eqb-false}
use Rattle.trees.proofs.evaluation.Entries.{rest_from}
use Rattle.trees.proofs.evaluation.NodeStates.{member_read, in_order_none, in_order_one, in_order_two, in_order_pair, in_order_next}
use Rattle.trees.proofs.evaluation.fits.Goals as goal

pub returns-then-is_empty : goal.returns-then-is_empty
returns-then-is_empty c =
    sym (in_order_none c.args.trees.now c.args.children.now (eqb-true _ _ (sym c.is_empty.ensures ∙ c.if-is_empty.true)))

pub returns-then-children-eq1 : goal.returns-then-children-eq1
returns-then-children-eq1 c =
    c.belongs-first.ensures ∙ member_read c.args.trees.now 0 _ c.index-trees-0.result (omega arith) c.index-trees-0.is
    ∙ sym (in_order_one c.args.trees.now c.args.children.now c.if-children-eq1.true)

pub returns-then-children-eq2 : goal.returns-then-children-eq2
returns-then-children-eq2 c =
    let first = member_read c.args.trees.now 0 (get_or c.args.children.now 0 0) c.index-trees-0.result (omega arith) c.index-trees-0.is in
    let second = member_read c.args.trees.now 1 (get_or c.args.children.now 1 0) c.index-trees-1.result (omega arith) c.index-trees-1.is in
    rw (c.belongs-first.ensures, first, c.belongs.ensures, second) (in_order_pair c.args.trees.now c.args.children.now c.if-children-eq2.true)

pub loop-tree-init : goal.loop-tree-init
loop-tree-init c =
    let some : length c.args.children.now ≡ 0 → ⊥ = eqb-false _ _ (sym c.is_empty.ensures ∙ c.if-is_empty.false) in
    let two : 2 ≤ length c.args.children.now = omega arith in
    rw (
      c.into_iter-tree-iterator.ensures.into_iter_gives,
      c.zip-tree-items.ensures.first,
      c.zip-tree-items.ensures.second.0,
      c.iter.ensures.rest,
      rest_from c.args.trees.now 2,
      rest_from c.args.children.now 2,
      c.belongs-first.ensures ∙ member_read c.args.trees.now 0 _ c.index-trees-0.result (omega arith) c.index-trees-0.is,
      c.belongs.ensures ∙ member_read c.args.trees.now 1 _ c.index-trees-1.result (omega arith) c.index-trees-1.is,
    )
    record {
      enough = omega (arith, length-drop 2 c.args.trees.now, length-drop 2 c.args.children.now);
      left = in_order_two c.args.trees.now c.args.children.now two;
    }

pub loop-tree-preserved : goal.loop-tree-preserved
loop-tree-preserved c =
    let (more, more') = c.in-Some.ensures.steps in record {
      enough = omega (arith, c.loop-tree.invariant.enough, ap length more, ap length more');
      left = rw c.belongs-all.ensures
          (and_assoc c.loop-tree.all _ _ ∙ ap (λ (t : Bool). c.loop-tree.all && t) (sym (in_order_next _ _ more more')) ∙ c.loop-tree.invariant.left);
    }

-- No tree is left, and so no child, or no child.
pub returns : goal.returns
returns c =
    let none : length c.loop-tree.tree-iterator.b.rest.now ≡ 0 =
    elim c.in-None.ensures.steps [ inl (_, (h, _)) ↦ omega (arith, h, c.loop-tree.invariant.enough) | inr (_, (h, _)) ↦ h ] in
    sym (and-true c.loop-tree.all) ∙ ap (λ (t : Bool). c.loop-tree.all && t) (sym (in_order_none _ _ none)) ∙ c.loop-tree.invariant.left
