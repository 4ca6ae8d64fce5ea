use Rattle.std.proofs.Common.{◌≡◌, ◌∙◌, ◌<◌, ℕ, true, not, List, arith, sym, ap}
use mathlib.Core.List.{Memᴰ}
use Rattle.lists.proofs.Search.{among_in}
use Rattle.sets.specs.Set.{member}
use Rattle.sets.specs.Inner.{states_in}
use Rattle.sets.proofs.EntrySets.{entry_repeated}
use Rattle.sets.proofs.StateLoops.{among_states}
use Rattle.sets.proofs.StateSets.{states_low}
use Rattle.automaton.specs.Automaton.{Rule}
use Rattle.automaton.specs.Row.{rules_of}
use Rattle.refinement.specs.Inner.{Simulable}
use Rattle.refinement.proofs.RuleRows.{rules_low}
use Rattle.refinement.proofs.rounds.Going.{going_next, going_done, going_few, states_few}
use Rattle.refinement.proofs.rounds.First.{going_first}
use Rattle.refinement.proofs.rounds.simulate.Goals as goal

pub hold_targets-requires : goal.hold_targets-requires
hold_targets-requires g c f h = entry_repeated 256 f c.empty-next.result h ∙ c.empty-next.ensures

-- The rows stay 256.

pub invariant_of-relation : goal.invariant_of-relation
invariant_of-relation g c = c.first_round.array_long

pub invariant_of-relation-in-loop-next : goal.invariant_of-relation-in-loop-next
invariant_of-relation-in-loop-next g c = c.put_back.ensures.long

-- The states that rules name.
module _ {rules : List Rule} (set : List ℕ) (s : Simulable rules (states_in 256 set)) (u : Rule) (m : Memᴰ u rules) where
  target_known : (u.target < 256) × (member set u.target ≡ true)
  target_known =
      let low = states_low 256 set _ (s.targets u m) in (low, sym (among_states set u.target low) ∙ among_in (s.targets u m))

  child_low : (q : ℕ) → Memᴰ q u.children → q < 256
  child_low q d = states_low 256 set _ (s.children u m q d)

pub loop-next-init : goal.loop-next-init
loop-next-init g c =
    going_first _ c.args.states c.requires.simulable (λ u m. (rules_low c.args.rules.now u m).0) c.hold_targets.new.holders
    c.hold_targets.ensures c.start.new.rows c.first_round.new.rows c.start.ensures c.first_round.ensures
    c.copy_rows-changed.result c.copy_rows-changed.ensures.has c.copy_rows-changed.new.next c.copy_rows-changed.ensures.copied

-- Where the test of the loop holds, the last round lost a pair, and there are fewer rounds than pairs.
pub overflow_add-rounds : goal.overflow_add-rounds
overflow_add-rounds g c =
    let left = going_few c.loop-next.invariant (states_few c.args.states.words) (ap not (sym c.loop-next-test.ensures)) in
    record { fits = omega arith }

pub loop-next-smaller : goal.loop-next-smaller
loop-next-smaller g c =
    let left = going_few c.loop-next.invariant (states_few c.args.states.words) (ap not (sym c.loop-next-test.ensures)) in omega arith

pub loop-next-preserved : goal.loop-next-preserved
loop-next-preserved g c =
    let set = c.args.states.words in
    let s = c.requires.simulable in
    let before = c.loop-next.invariant in
    let rounded = c.round-changed.ensures set (record { targets = target_known set s; copied = before.copied }) before.quiet in
    going_next set (rules_of c.args.rules.now) c.relation-in-loop-next.inside.rows c.put_back.new.rows c.round-changed.new.next
    c.round-changed.result (λ u m. (target_known set s u m).1) (rw (← c.relation-in-loop-next.view_is) at rounded) c.put_back.ensures.changed
    c.put_back.ensures.others (states_in 256 set) c.loop-next.next c.loop-next.changed.words c.loop-next.rounds (child_low set s)
    (rw (← c.relation-in-loop-next.view_is) at before) (ap not (sym c.loop-next-test.ensures))

pub returns-clause-relation_after : goal.returns-clause-relation_after
returns-clause-relation_after g c = (going_done c.loop-next.invariant (ap not (sym c.loop-next-test.ensures))).1
