-- The states below the number of states are all states of the table.
use Rattle.std.proofs.Common.{ℕ, ◌+◌, ◌-◌, ◌≤◌, ◌≡◌, ◌∙◌, List, ◌++◌, length, ap, ap₂, arith, ltb}
use native.Mathlib.Nat.{zero-add}
use mathlib.Core.List.{append-nil}
use borrow.Author.Tests.{lt-ltb, le-ltb}
use Rattle.lists.specs.Lists.{from, keep}
use Rattle.lists.proofs.Keeping.{keep_all, keep_none, keep_append}
use Rattle.lists.proofs.Ranges.{from_append, member_from}
use Rattle.sets.specs.Set.{member}
use Rattle.sets.specs.Inner.{states_in, Has}
use Rattle.indexing.proofs.Indexing.{rules_long}
use Rattle.automaton.specs.Automaton.{Automaton, WellFormed}
use Rattle.automaton.specs.Decoded.{size_of}
use Rattle.automaton.specs.declared.table.Size.{Size}
use Rattle.simulation.specs.Query.{simulation_of, rounds_of}
use Rattle.simulation.proofs.Preorder.{simulable_all}
use Rattle.simulation.proofs.Queries.{states_of}
use Rattle.simulation.proofs.query.simulate_all.Goals as goal

below_in : (n : ℕ) (words : List ℕ) → n ≤ 256 → Has words (λ (q : ℕ). ltb q n) → states_in 256 words ≡ from 0 n
unfolding states_in
below_in n words few has =
    let split : 256 ≡ n + (256 - n) = omega arith in
    ap (λ (m : ℕ). keep (member words) (from 0 m)) split
    ∙ rw (from_append 0 n (256 - n), keep_append, zero-add) (ap₂ ◌++◌
    (keep_all (member words) (from 0 n) (λ q m. let b = member_from n 0 q m in has q (omega arith) ∙ lt-ltb q n (omega arith)))
    (keep_none (member words) (from n (256 - n)) (λ q m. let b = member_from (256 - n) n q m in has q (omega arith) ∙ le-ltb q n (omega arith))))
    ∙ append-nil (from 0 n)

module _ (A : Automaton) (w : WellFormed A) (size : Size) (is : size ≡ size_of A) where
  states_few : size.states ≤ 256
  states_few = omega (arith, states_of A size is, w.states)

  states_all : (words : List ℕ) → Has words (λ (q : ℕ). ltb q size.states) → states_in 256 words ≡ from 0 A.states
  states_all words has = below_in size.states words states_few has ∙ ap (from 0) (states_of A size is)

pub below-states-requires : goal.below-states-requires
below-states-requires c = states_few _ c.size.ensures.well_formed _ c.size.ensures.value

pub fill-requires : goal.fill-requires
fill-requires c =
    let few : length c.rules-rules.result.now ≤ 1024 =
    omega (arith, rules_long c.rules-rules.result.now, ap length c.rules-rules.ensures, c.size.ensures.well_formed.count) in
    (omega arith, (few, few))

pub simulate-requires : goal.simulate-requires
simulate-requires c = (
  omega arith,
  (
    c.fill.ensures,
    rw (c.rules-rules.ensures, states_all _ c.size.ensures.well_formed _ c.size.ensures.value _ c.below-states.ensures)
        (simulable_all _ c.size.ensures.well_formed),
  ),
)

pub returns-clause-value : goal.returns-clause-value
unfolding rounds_of
returns-clause-value c =
    rw (c.rules-rules.ensures, states_all _ c.size.ensures.well_formed _ c.size.ensures.value _ c.below-states.ensures) at c.simulate.ensures.value

pub returns-clause-relation_after : goal.returns-clause-relation_after
unfolding simulation_of
returns-clause-relation_after c =
    rw (c.rules-rules.ensures, states_all _ c.size.ensures.well_formed _ c.size.ensures.value _ c.below-states.ensures)
    at c.simulate.ensures.relation_after

pub returns-clause-indexed : goal.returns-clause-indexed
returns-clause-indexed c = rw c.rules-rules.ensures at c.fill.ensures
