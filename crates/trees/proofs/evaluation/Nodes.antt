-- One node of the walk in an array: what `step` leaves is what `advance` gives. And the walk of a body, node by node. From `rank_on` in Postfix and the
-- stack in Stacks; for `step`, `evaluate` and `accept_nodes_in`.
use Prim.Native.Nat.{ℕ, suc, ◌+◌, ◌-◌, ◌*◌, ◌/◌, ◌≤◌, ◌<◌}
use native.Mathlib.Numerals.{add-one}
use native.Mathlib.Omega.{arith}
use mathlib.Core.Path.{◌≡◌, sym, ap, ◌∙◌}
use mathlib.Core.List.{List, [], ◌++◌, reverse}
use lib.ListN.{length, take, drop, get_or, set, length-append}
use Rattle.std.specs.Prelude.{Result, Ok, Err, Option}
use Rattle.lists.specs.Lists.{any}
use Rattle.sets.specs.Set.{empty_set, same_set}
use Rattle.sets.specs.Inner.{Has}
use Rattle.records.specs.Read.{found, refused, map_read, ◌>>=◌}
use Rattle.records.specs.Answers.{reading_of}
use Rattle.records.specs.Refusal.{number_of}
use Rattle.records.specs.Bytes.{number2, numbers}
use Rattle.records.specs.declared.refusal.Refusal.{Refusal}
use Rattle.records.proofs.Fields.{numbers_end}
use Rattle.automaton.proofs.Chunks.{pair}
use Rattle.automaton.specs.Automaton.{Automaton}
use Rattle.trees.specs.Subtree.{first_of}
use Rattle.trees.specs.Walk.{Waiting, Walk, sizes_of, noted, onto, joined, advance, advance_all}
use Rattle.trees.specs.Inner.{Evaluable, rule_gives, stack_in, walk_in, Consecutive, start_of}
use Rattle.trees.specs.declared.entry.Entry.{Entry}
use Rattle.trees.specs.declared.evaluation.Subtree.{Subtree}
use Rattle.trees.proofs.Postfix.{rank_unknown, rank_unbalanced, rank_above_limit, rank_found}
use Rattle.trees.proofs.Walking.{advance_counts, advance_grows}
use Rattle.trees.proofs.evaluation.Stacks.{start_on, start_taken, start_low, consecutive_below, length_stack, stack_below, stack_states, stack_sizes}
use Rattle.trees.proofs.evaluation.Stacks.{no_states, node_joined, put_stack, put_consecutive}

-- The tree of a node that takes r of h trees off the stack follows those that are left.
module _ (stack : List Entry) (h r nodes : ℕ) (enough : r ≤ h) (room : h ≤ length stack) (consecutive : Consecutive stack h nodes) where
  apart : Consecutive stack (r + (h - r)) nodes
  apart = let tall : h ≡ r + (h - r) = omega arith in rw tall at consecutive

  pub start_is : start_of (take (h - (h - r)) (drop (h - r) stack)) nodes ≡ start_on stack (h - r) r nodes
  start_is = let off : h - (h - r) ≡ r = omega arith in rw off (start_taken stack (h - r) r nodes (omega arith))

  pub node_start_low : start_of (take (h - (h - r)) (drop (h - r) stack)) nodes ≤ nodes
  node_start_low = rw start_is (start_low stack r (h - r) nodes apart)

  pub node_consecutive : (t : Entry) → h - r < length stack → t.start ≡ start_of (take (h - (h - r)) (drop (h - r) stack)) nodes
      → Consecutive (set stack (h - r) t) (h - r + 1) (nodes + 1)
  node_consecutive t place is =
      let below : Consecutive stack (h - r) t.start = rw (is, start_is) (consecutive_below stack r (h - r) nodes apart) in
      put_consecutive stack (h - r) t place (nodes + 1) (omega (arith, node_start_low)) below

-- The nodes of a walk in an array.
pub nodes_in : (stack : List Entry) (h nodes : ℕ) (first : Option Subtree) (w : Walk) → walk_in stack h nodes first ≡ w → nodes ≡ w.nodes
unfolding walk_in
nodes_in stack h nodes first w is = ap (λ (v : Walk). v.nodes) is

-- The height of a stack in an array.
pub tall_in : (stack : List Entry) (h nodes : ℕ) (first : Option Subtree) (w : Walk) → walk_in stack h nodes first ≡ w → h ≡ length w.stack
unfolding walk_in
tall_in stack h nodes first w is = sym (length_stack stack h nodes) ∙ ap (λ (v : Walk). length v.stack) is

pub advance_unknown : (A : Automaton) (w : Walk) (f : ℕ) → length A.ranks ≤ f → refused 9 ≡ advance A w f
unfolding advance ◌>>=◌
advance_unknown A w f h = rw (rank_unknown A.ranks (length w.stack) f h)

module _ {A : Automaton} {index : List (List ℕ)} (v : Evaluable A index) (stack : List Entry) (height nodes : ℕ) (first : Option Subtree) (f : ℕ) where
  module _ (known : f < length A.ranks) where
    pub advance_unbalanced : height < get_or A.ranks f 0 → refused 10 ≡ advance A (walk_in stack height nodes first) f
    unfolding advance walk_in ◌>>=◌
    advance_unbalanced h = rw (length_stack, rank_unbalanced A.ranks height f known h)

    module _ (enough : get_or A.ranks f 0 ≤ height) where
      pub advance_above_limit : 1024 ≤ height - get_or A.ranks f 0 → refused 11 ≡ advance A (walk_in stack height nodes first) f
      unfolding advance walk_in ◌>>=◌
      advance_above_limit h = rw (length_stack, rank_above_limit A.ranks height f known enough h)

      module _ (few : height - get_or A.ranks f 0 < 1024) (consecutive : Consecutive stack height nodes) (room : height ≤ length stack)
          (place : height - get_or A.ranks f 0 < length stack) where
        abbrev r : ℕ
        r = get_or A.ranks f 0

        abbrev e : ℕ
        e = height - r

        -- The trees of the node's children.
        abbrev children : List Entry
        children = take (height - e) (drop e stack)

        pub advance_node : (t : Entry) → t.start ≡ start_of children nodes
            → Has t.states.words (λ (q : ℕ). any (rule_gives A.rules children q) (get_or index f []))
            → (next : Option Subtree)
            → first_of next ≡ noted (first_of first) nodes (nodes + 1 - t.start) (same_set t.states.words empty_set)
            → found (walk_in (set stack e t) (e + 1) (nodes + 1) next)
            ≡ advance A (walk_in stack height nodes first) f
        unfolding advance walk_in onto joined ◌>>=◌
        advance_node t starts has next is =
            let tall : height ≡ r + e = omega arith in
            let off : height - e ≡ r = omega arith in
            let begins : t.start ≡ start_on stack e r nodes = starts ∙ start_is stack height r nodes enough room consecutive in
            let waiting = stack_in stack (r + e) nodes in
            let sizes = stack_sizes stack r e nodes (rw tall at consecutive) in
            let low : t.start ≤ nodes = rw starts (node_start_low stack height r nodes enough room consecutive) in
            let size : suc nodes - t.start ≡ suc (sizes_of (reverse (take r waiting))) = omega arith in
            let top = node_joined v f known stack e (reverse (take r waiting)) (stack_states stack r e nodes) t.states.words (rw off at has) _ size in
            let taken : reverse (take r (stack_in stack height nodes)) ≡ reverse (take r waiting) =
            ap (λ (h : ℕ). reverse (take r (stack_in stack h nodes))) tall in
            let left : drop r (stack_in stack height nodes) ≡ stack_in stack e t.start =
            ap (λ (h : ℕ). drop r (stack_in stack h nodes)) tall ∙ stack_below stack r e nodes ∙ ap (stack_in stack e) (sym begins) in
            rw (
              length_stack stack height nodes,
              rank_found A.ranks height f known enough few,
              taken,
              left,
              is,
              put_stack stack e t place (nodes + 1),
              no_states t.states,
              add-one,
            )
            (ap (λ (w : Waiting). found (onto (walk_in stack height nodes first) w (stack_in stack e t.start))) top)

-- So many nodes were read of a body, and its rest is left: a number more.
pub number_more : (nodes begun : ℕ) (b rest p rest' : List ℕ) → 2 * nodes + length rest ≡ 2 * begun + length b → length p ≡ 2 → rest ≡ p ++ rest'
    → (nodes < begun + length b / 2) × (2 * (nodes + 1) + length rest' ≡ 2 * begun + length b)
number_more nodes begun b rest p rest' left two splits =
    let long = simp length-append at (ap length splits) in
    (omega arith, omega arith)

-- A number more off the rest of a body, for a stack that grows by at most one tree.
pub room_more : (height begun next : ℕ) (b rest p rest' : List ℕ) → 2 * height + length rest ≤ 2 * begun + length b → length p ≡ 2 → rest ≡ p ++ rest'
    → (height + 1 ≤ begun + length b / 2) × (next ≤ height + 1 → 2 * next + length rest' ≤ 2 * begun + length b)
room_more height begun next b rest p rest' left two splits =
    let long = simp length-append at (ap length splits) in
    (omega arith, λ more. omega arith)

-- The nodes in the rest of a body are still to be walked.
module _ (A : Automaton) (begun : Walk) (b rest : List ℕ) (walk : Walk)
    (left : advance_all A begun (numbers b) ≡ advance_all A walk (numbers rest)) where
  pub walk_ends : length rest < 2 → found walk ≡ advance_all A begun (numbers b)
  unfolding advance_all
  walk_ends h = sym (left ∙ rw (numbers_end rest 0 (omega arith)))

  module _ (p rest' : List ℕ) (two : length p ≡ 2) (splits : rest ≡ p ++ rest') (f : ℕ) (is : f ≡ number2 p)
      (answer : Result Walk Refusal) (s : reading_of answer ≡ advance A walk f) where
    left_after : advance_all A begun (numbers b) ≡ reading_of answer >>= (λ (w : Walk). advance_all A w (numbers rest'))
    unfolding advance_all
    left_after = left ∙ rw (splits, pair p rest' two, ← is, s)

    pub walk_refused : (cause : Refusal) → answer ≡ Err cause → refused (number_of cause) ≡ advance_all A begun (numbers b)
    unfolding reading_of map_read ◌>>=◌
    walk_refused cause e = sym (left_after ∙ rw e)

    module _ (next : Walk) (e : answer ≡ Ok next) where
      pub walk_counts : next.nodes ≡ walk.nodes + 1
      unfolding reading_of map_read
      walk_counts = advance_counts A walk f (sym s ∙ ap reading_of e)

      pub walk_grows : length next.stack ≤ length walk.stack + 1
      unfolding reading_of map_read
      walk_grows = advance_grows A walk f (sym s ∙ ap reading_of e)

      pub walk_next : advance_all A begun (numbers b) ≡ advance_all A next (numbers rest')
      unfolding reading_of map_read ◌>>=◌
      walk_next = left_after ∙ rw e
