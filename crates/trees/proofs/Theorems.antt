-- What holds of the walk over a tree and of what the array holds between nodes, stated over the definitions of specs/ alone.
use Prim.Native.Nat.{ℕ, ◌+◌, ◌≤◌}
use native.Mathlib.Omega.{arith}
use mathlib.Core.Path.{◌≡◌}
use mathlib.Core.Logic.{◌↔◌}
use mathlib.Core.List.{List, []}
use lib.ListN.{length}
use Rattle.std.specs.Prelude.{min, Option}
use Rattle.records.specs.Read.{found, map_read}
use Rattle.automaton.specs.Automaton.{Automaton, WellFormed}
use Rattle.trees.specs.Postfix.{push_all}
use Rattle.trees.specs.Walk.{Walk, start, sizes_of, advance, advance_all}
use Rattle.trees.specs.Inner.{walk_in, Consecutive, FillsNodes, Fills, tree_finding}
use Rattle.trees.specs.Holds.{walk_finding, walk_of, Held, StackRoom, FitsArray, Holding, SameUpTo, HoldableWalk}
use Rattle.trees.specs.declared.entry.Entry.{Entry}
use Rattle.trees.specs.declared.evaluation.Subtree.{Subtree}
use Rattle.trees.proofs.Walking as walking
use Rattle.trees.proofs.evaluation.Holding as holding

module _ (A : Automaton) (w : WellFormed A) where
  -- After any symbols the walk holds of the trees that were read what `walk_of` says; or both refuse, alike.
  pub walk_holds : (symbols : List ℕ) → advance_all A start symbols ≡ map_read (walk_of A) (push_all A.ranks [] symbols)
  walk_holds = walking.walk_holds A w

  -- What is found of a tree in bytes is what the walk finds.
  pub tree_walk : (b : List ℕ) → tree_finding A b ≡ walk_finding A b
  tree_walk = walking.tree_walk A w

  -- Each walk over at most 16,384 symbols can be held in an array, and the sizes of its trees add up to the number of symbols.
  pub walked_holdable : (symbols : List ℕ) {last : Walk} → length symbols ≤ 16384 → advance_all A start symbols ≡ found last
      → HoldableWalk last × (sizes_of last.stack ≡ length symbols) × (last.nodes ≡ length symbols)
  unfolding start
  walked_holdable symbols {last} few e =
      let (h, counts) = walking.walked_invariant A start symbols (walking.start_invariant A) e in
      let all : last.nodes ≡ length symbols = omega arith in
      (holding.invariant_holdable A last w.states (omega arith) h, omega (arith, h.sizes), all)

-- The walks that an array can hold: each of these, whether trees lead to it or not, and no other.
pub walk_held : (w : Walk) → HoldableWalk w ↔ ((stack : List Entry) × (held : Held) × Holding stack held w)
walk_held w = (holding.holdable_held w, λ (stack, held, h). holding.holding_holdable h)

-- A stack that fits its array and whose trees fill the nodes is one that a `Walk` can hold, with room for its next step.
pub held_walks : (stack : List Entry) (held : Held) → length stack ≤ 1024 → FitsArray stack held → Consecutive stack held.height held.nodes
    → FillsNodes (length stack) stack held.height held.nodes × (min (held.height + 1) 1024 ≤ length stack)
held_walks stack held places h consecutive = (record { places = places; room = omega (arith, h.few.0, h.room); consecutive = consecutive }, h.room)

module _ {n h nodes : ℕ} {stack : List Entry} (first : Option Subtree) where
  -- Where `Fills` holds of the array of a walk, the walk has no more trees than nodes, as `start` has.
  pub fills_few : Fills n stack h nodes → length (walk_in stack h nodes first).stack ≤ nodes
  fills_few = holding.fills_few first

  -- From such a walk a step leads only to walks of whose array `Fills` holds, and so do steps over any symbols.
  module _ (fits : FillsNodes n stack h nodes) (A : Automaton) (begun : Walk) (few : length begun.stack ≤ begun.nodes) where
    pub step_fills : (symbol : ℕ) → advance A begun symbol ≡ found (walk_in stack h nodes first) → Fills n stack h nodes
    step_fills = holding.step_fills first fits A begun few

    pub walked_fills : (symbols : List ℕ) → advance_all A begun symbols ≡ found (walk_in stack h nodes first) → Fills n stack h nodes
    walked_fills = holding.walked_fills first fits A begun few

module _ {stack stack' : List Entry} {held : Held} {w : Walk} where
  -- Nothing else is held: arrays that hold the same walk are the same up to the height.
  pub held_alone : {held' : Held} → Holding stack held w → Holding stack' held' w → (held ≡ held') × SameUpTo held.height stack stack'
  held_alone = holding.held_alone

  -- What stands in them from the height on does not matter.
  pub held_below : SameUpTo held.height stack stack' → StackRoom (held.height + 1) stack' → Holding stack held w → Holding stack' held w
  held_below = holding.held_below
