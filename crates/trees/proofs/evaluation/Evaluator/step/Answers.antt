-- Each return is one of the ways through `advance`.
use Rattle.std.proofs.Common.{◌≤◌, ◌<◌, ◌≡◌, length, length-take, length-drop, arith, ◌∙◌}
use Rattle.std.specs.Prelude.{Option, Some, None, Err}
use Rattle.std.specs.Option.{ok_or}
use Rattle.std.proofs.lemmas.Result.{err_from_is_err_and}
use Rattle.records.specs.Answers.{reading_of}
use Rattle.records.specs.Read.{map_read}
use Rattle.records.specs.declared.refusal.Refusal.{Refusal}
use Rattle.trees.specs.declared.entry.Entry.{Entry}
use Rattle.trees.proofs.evaluation.Nodes.{node_start_low, node_consecutive, nodes_in, tall_in, advance_unknown, advance_unbalanced, advance_above_limit, advance_node}
use Rattle.trees.proofs.evaluation.Stacks.{rules_ranked}
use Rattle.trees.proofs.evaluation.Evaluator.step.Goals as goal

-- The cause that an `ok_or` gives.
cause_is : {A : Type 0} (value : Option A) (cause given : Refusal) → value ≡ None → Err given ≡ ok_or value cause → given ≡ cause
cause_is None cause given none is = cc
cause_is (Some a) cause given none is = cc

pub returns-in_err-rank : goal.returns-in_err-rank
unfolding reading_of map_read
returns-in_err-rank g c =
    let p = err_from_is_err_and c.from_residual.result c.from_residual.ensures.1 in
    let cause = cause_is _ _ _ c.in_err-rank.ensures.ok_part c.in_err-rank.ensures.value in
    let unknown : length c.ranks.result.now ≤ c.args.symbol = rw c.in_err-rank.ensures.ok_part at c.get.ensures.lookup.3 in
    rw (p.1, p.2, cause, ← c.self.view_is) (advance_unknown _ _ _ (rw c.ranks.ensures at unknown))

pub returns-in_err-e : goal.returns-in_err-e
unfolding reading_of map_read
returns-in_err-e g c =
    let p = err_from_is_err_and c.from_residual-in_err-e.result c.from_residual-in_err-e.ensures.1 in
    let cause = cause_is _ _ _ c.in_err-e.ensures.ok_part c.in_err-e.ensures.value in
    let found : c.args.symbol < length c.ranks.result.now = (rw c.in_ok-rank.ensures.ok_part at c.get.ensures.lookup.3).0 in
    let rank = rw c.ranks.ensures at (c.from.ensures ∙ (rw c.in_ok-rank.ensures.ok_part at c.get.ensures.lookup.4) (omega arith) 0) in
    let known : c.args.symbol < length c.self.inside.table.now.ranks = rw (← c.ranks.ensures) found in
    let few = rw c.in_err-e.ensures.ok_part at c.checked_sub.ensures in
    rw (p.1, p.2, cause, ← c.self.view_is, ← c.walk.view_is) (advance_unbalanced c.self.invariant _ _ _ _ _ known (omega arith))

pub returns-then-e-ge1024 : goal.returns-then-e-ge1024
unfolding reading_of map_read
returns-then-e-ge1024 g c =
    let found : c.args.symbol < length c.ranks.result.now = (rw c.in_ok-rank.ensures.ok_part at c.get.ensures.lookup.3).0 in
    let rank = rw c.ranks.ensures at (c.from.ensures ∙ (rw c.in_ok-rank.ensures.ok_part at c.get.ensures.lookup.4) (omega arith) 0) in
    let known : c.args.symbol < length c.self.inside.table.now.ranks = rw (← c.ranks.ensures) found in
    let place = rw c.in_ok-e.ensures.ok_part at c.checked_sub.ensures in
    rw (← c.self.view_is, ← c.walk.view_is) (advance_above_limit c.self.invariant _ _ _ _ _ known (omega arith) (omega arith))

pub shared_whole_as_slice-trees : goal.shared_whole_as_slice-trees
shared_whole_as_slice-trees g c = omega (arith, c.walk.invariant.places)

pub states_over-states-requires : goal.states_over-states-requires
states_over-states-requires g c =
    let found : c.args.symbol < length c.ranks.result.now = (rw c.in_ok-rank.ensures.ok_part at c.get.ensures.lookup.3).0 in
    let rank = rw c.ranks.ensures at (c.from.ensures ∙ (rw c.in_ok-rank.ensures.ok_part at c.get.ensures.lookup.4) (omega arith) 0) in
    let known : c.args.symbol < length c.self.inside.table.now.ranks = rw (← c.ranks.ensures) found in
    let place = rw c.in_ok-e.ensures.ok_part at c.checked_sub.ensures in
    rw (← c.self.view_is, c.numbers-numbers.ensures) (λ i m.
    let (low, arity) = rules_ranked c.self.invariant _ known i m in
    (low, omega (arith, length-take {A = Entry}, length-drop {A = Entry})))

pub start_of-start-requires : goal.start_of-start-requires
start_of-start-requires g c = let nodes = nodes_in _ _ _ _ _ c.walk.view_is in omega (arith, c.requires.0)

pub listed : goal.listed
listed g c =
    let tall = tall_in _ _ _ _ _ c.walk.view_is in
    let place = rw c.in_ok-e.ensures.ok_part at c.checked_sub.ensures in
    let low : c.in_ok-e.e < g.row.N = omega (arith, c.requires.1) in
    omega arith

pub bounds-stack-e : goal.bounds-stack-e
bounds-stack-e g c =
    let tall = tall_in _ _ _ _ _ c.walk.view_is in
    let place = rw c.in_ok-e.ensures.ok_part at c.checked_sub.ensures in
    omega (arith, c.requires.1)

pub noted-requires : goal.noted-requires
noted-requires g c =
    let nodes = nodes_in _ _ _ _ _ c.walk.view_is in
    let place = rw c.in_ok-e.ensures.ok_part at c.checked_sub.ensures in
    let room : c.walk.inside.height ≤ length c.walk.inside.stack.now = omega (arith, c.walk.invariant.room) in (
      rw (c.from-2.ensures, c.start_of-start.ensures, place.1)
          (node_start_low c.walk.inside.stack.now _ _ _ place.0 room c.walk.invariant.consecutive),
      omega (arith, c.requires.0),
    )

pub overflow_add-result-2 : goal.overflow_add-result-2
overflow_add-result-2 g c = let nodes = nodes_in _ _ _ _ _ c.walk.view_is in omega (arith, c.requires.0)

pub invariant_of-result : goal.invariant_of-result
invariant_of-result g c =
    let nodes = nodes_in _ _ _ _ _ c.walk.view_is in
    let tall = tall_in _ _ _ _ _ c.walk.view_is in
    let place = rw c.in_ok-e.ensures.ok_part at c.checked_sub.ensures in
    let low : c.in_ok-e.e < g.row.N = omega (arith, c.requires.1) in
    let room : c.walk.inside.height ≤ length c.walk.inside.stack.now = omega (arith, c.walk.invariant.room) in
    record {
      places = c.walk.invariant.places;
      room = omega arith;
      consecutive = rw place.1
          (node_consecutive c.walk.inside.stack.now _ _ _ place.0 room c.walk.invariant.consecutive _ (omega arith) (rw place.1 at c.start_of-start.ensures));
    }

pub returns : goal.returns
unfolding reading_of map_read
returns g c =
    let nodes = nodes_in _ _ _ _ _ c.walk.view_is in
    let found : c.args.symbol < length c.ranks.result.now = (rw c.in_ok-rank.ensures.ok_part at c.get.ensures.lookup.3).0 in
    let rank = rw c.ranks.ensures at (c.from.ensures ∙ (rw c.in_ok-rank.ensures.ok_part at c.get.ensures.lookup.4) (omega arith) 0) in
    let known : c.args.symbol < length c.self.inside.table.now.ranks = rw (← c.ranks.ensures) found in
    let tall = tall_in _ _ _ _ _ c.walk.view_is in
    let place = rw c.in_ok-e.ensures.ok_part at c.checked_sub.ensures in
    let low : c.in_ok-e.e < g.row.N = omega (arith, c.requires.1) in
    let room : c.walk.inside.height ≤ length c.walk.inside.stack.now = omega (arith, c.walk.invariant.room) in
    rw (← c.self.view_is, ← c.walk.view_is, place.1, rank)
    (advance_node c.self.invariant _ _ _ _ _ known (omega arith) (omega arith) c.walk.invariant.consecutive room (omega arith) _
    (rw (place.1, rank) at c.start_of-start.ensures)
    (rw (← c.self.view_is, c.numbers-numbers.ensures, place.1, rank) at c.states_over-states.ensures)
    c.noted.result
    (rw c.from-2.ensures at c.noted.ensures))
