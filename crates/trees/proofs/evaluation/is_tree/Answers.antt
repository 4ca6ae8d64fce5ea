-- Each return is one of the cases of `is_tree_record`.
use Rattle.std.proofs.Common.{◌≡◌, ◌∙◌, length, rules}
use mathlib.Core.Logic.{inl, inr}
use Rattle.std.specs.Prelude.{None}
use borrow.Author.Tests.{eq-eqb, ne_eqb}
use Rattle.records.specs.Answers.{opening_of}
use Rattle.trees.specs.Postfix.{is_tree_record}
use Rattle.trees.proofs.evaluation.is_tree.Goals as goal
use Rattle.trees.proofs.evaluation.is_tree.Goals.{then-kind-from, else-kind-from}

pub returns-in_default : goal.returns-in_default
unfolding opening_of is_tree_record
returns-in_default c =
    let none : c.in_default.field-0 ≡ None = search rules in
    rw (← c.open.ensures, c.in_default.is, none)

pub returns-in_default-2 : goal.returns-in_default-2
unfolding opening_of is_tree_record
returns-in_default-2 c = rw (← c.open.ensures, c.in_default.is)

pub returns-then-end-t : goal.returns-then-end-t
unfolding opening_of is_tree_record
returns-then-end-t c =
    rw (
      ← c.in-Ok-Some.ensures,
      c.in-Ok-Some.field-0-is,
      eq-eqb _ 16 (c.if-end-t.true.0 ∙ c.from.ensures),
      eq-eqb _ _ c.if-end-t.true.1,
      c.body.ensures,
    )

pub returns-else-end-t : goal.returns-else-end-t
unfolding opening_of is_tree_record
returns-else-end-t c =
    elim c.if-kind-from.branch [
      | then-kind-from w ↦
          let more : c.in-Ok-Some.field-0-0.end ≡ length c.args.t.now → ⊥ =
          λ e. elim c.if-end-t.either [ inl both ↦ both.1 e | inr other ↦ other w.if-kind-from.true ] in
          rw (
            w.t-6-is,
            ← c.in-Ok-Some.ensures,
            c.in-Ok-Some.field-0-is,
            eq-eqb _ 16 (w.if-kind-from.true ∙ c.from.ensures),
            ne_eqb _ _ more,
          )
      | else-kind-from w ↦
          rw (
            w.t-6-is,
            ← c.in-Ok-Some.ensures,
            c.in-Ok-Some.field-0-is,
            ne_eqb _ _ w.if-kind-from.false,
            ne_eqb _ 16 (rw c.from.ensures at w.if-kind-from.false),
          )
    ]
