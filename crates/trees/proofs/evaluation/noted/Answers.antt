-- The first one stays; without one, this is it where it belongs to no state.
use Rattle.std.proofs.Common.{ℕ, ◌≡◌, refl, Bool, true, false}
use Rattle.std.specs.Prelude.{Option, Some, None}
use Rattle.std.specs.Option.{is_some}
use Rattle.trees.specs.Subtree.{first_at, first_of}
use Rattle.trees.specs.Walk.{noted}
use Rattle.trees.specs.declared.evaluation.Subtree.{Subtree}
use Rattle.trees.proofs.evaluation.noted.Goals as goal
use Rattle.trees.proofs.evaluation.noted.Goals.{else-is_none-via-then-is_none+else-is_empty, else-is_none-via-else-is_none}

is_new : (first : Option Subtree) (node size : ℕ) → is_some first ≡ false → first_at node size ≡ noted (first_of first) node size true
unfolding first_of noted
is_new None node size none = refl
is_new (Some t) node size none = cc

stays : (first : Option Subtree) (node size : ℕ) (bad : Bool) → is_some first ≡ true → first_of first ≡ noted (first_of first) node size bad
unfolding first_of noted
stays (Some t) node size bad some = refl
stays None node size bad some = cc

stays_none : (first : Option Subtree) (node size : ℕ) → first_of first ≡ noted (first_of first) node size false
unfolding first_of noted
stays_none None node size = refl
stays_none (Some t) node size = refl

pub returns-then-is_empty : goal.returns-then-is_empty
unfolding first_of
returns-then-is_empty c = rw (← c.if-is_empty.ensures) (is_new c.args.first _ _ c.if-is_none.ensures)

pub returns : goal.returns
returns c =
    elim c.else-is_none.branch [
      | else-is_none-via-then-is_none+else-is_empty w ↦ rw (← w.if-is_empty.ensures) (stays_none c.args.first _ _)
      | else-is_none-via-else-is_none w ↦ stays c.args.first _ _ _ w.if-is_none.ensures
    ]
