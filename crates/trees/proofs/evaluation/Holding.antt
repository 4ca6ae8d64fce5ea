-- What an array holds between nodes is a walk and nothing else: every walk that fits is held by some array, arrays that are the same up to the height
-- hold the same walk, and those that hold the same walk are the same there. What `Fills` says goes on from step to step. From Stacks and the laws of
-- state sets; for the theorems.
use Prim.Native.Nat.{ℕ, zero, suc, ◌+◌, ◌-◌, ◌^◌, ◌≤◌, ◌<◌}
use native.Mathlib.Decide.{dec_lt}
use native.Mathlib.Omega.{arith}
use mathlib.Core.Path.{◌≡◌, refl, sym, ap, ◌∙◌}
use mathlib.Core.List.{List, [], ◌∷◌, ◌++◌}
use lib.ListN.{length, length-append}
use Rattle.std.specs.Prelude.{Option, Some, None}
use Rattle.lists.specs.Lists.{All, none, also, among}
use Rattle.lists.proofs.Elements.{all_map}
use Rattle.lists.proofs.Search.{among_kept}
use Rattle.sets.specs.Set.{member}
use Rattle.sets.specs.Inner.{set_of, states_in}
use Rattle.sets.proofs.StateSets.{Bounded, same_members, states_of_set, length_set_of, bounded_set_of}
use Rattle.records.specs.Read.{found}
use Rattle.automaton.specs.Automaton.{Automaton}
use Rattle.trees.specs.Walk.{Waiting, Walk, sizes_of, advance, advance_all}
use Rattle.trees.specs.Inner.{set_at, start_at, stack_by, stack_in, walk_in, FillsNodes, Fills}
use Rattle.trees.specs.Holds.{Held, StackRoom, Following, FirstBelow, Holding, SameUpTo, StatesBelow, HoldableWalk}
use Rattle.trees.specs.Subtree.{First, nowhere, first_at, first_of}
use Rattle.trees.specs.declared.entry.Entry.{Entry}
use Rattle.trees.specs.declared.evaluation.Subtree.{Subtree}
use Rattle.trees.proofs.Walking.{kept_below, Invariant, advance_few, advance_all_few}
use Rattle.trees.proofs.evaluation.Entries.{set_length, set_bounded, set_before, start_before, set_last, start_last}
use Rattle.trees.proofs.evaluation.Stacks.{length_stack, stack_up_to}

following_same : (stack stack' : List Entry) (h end : ℕ) → ((e : ℕ) → e < h → start_at stack' e ≡ start_at stack e) → Following stack h end
    → Following stack' h end
unfolding Following
following_same stack stack' zero end same c = c
following_same stack stack' (suc h) end same c =
    rw (same h (omega arith)) (c.0, following_same stack stack' h (start_at stack h) (λ e l. same e (omega arith)) c.1)

-- Walks that fit: those from the start on, and those that are held.
module _ (stack : List Entry) where
  stack_below_256 : (h end : ℕ) → All (StatesBelow 256) (stack_in stack h end)
  unfolding stack_by states_in
  stack_below_256 zero end = none
  stack_below_256 (suc h) end = also (kept_below (member (set_at stack h)) 256) (stack_below_256 h (start_at stack h))

  stack_sizes_low : (h end : ℕ) → Following stack h end → sizes_of (stack_in stack h end) ≤ end
  unfolding stack_by sizes_of Following
  stack_sizes_low zero end c = omega arith
  stack_sizes_low (suc h) end (low, below) = omega (arith, stack_sizes_low h (start_at stack h) below)

-- What the code holds for a first node, and the first node back.
option_of : First → Option Subtree
option_of nowhere = None
option_of (first_at i size) = Some (record { node = i; size = size })

first_kept : (first : First) → first_of (option_of first) ≡ first
unfolding first_of option_of
first_kept nowhere = refl
first_kept (first_at i size) = refl

option_kept : (held : Option Subtree) → option_of (first_of held) ≡ held
unfolding first_of option_of
option_kept None = refl
option_kept (Some t) = refl

first_wider : (m n : ℕ) (first : First) → m ≤ n → FirstBelow m first → FirstBelow n first
unfolding FirstBelow
first_wider m n nowhere l b = tt
first_wider m n (first_at i size) l (low, few) = (omega arith, omega arith)

pub invariant_holdable : (A : Automaton) (w : Walk) → A.states ≤ 256 → w.nodes < 65536 → Invariant A w → HoldableWalk w
invariant_holdable A w small few h = record {
  few = (h.waiting, few);
  states = all_map (λ t (rise, low). (rise, all_map (λ q l. omega arith) low)) h.states;
  sizes = omega (arith, h.sizes);
  first = first_wider (suc w.nodes) (2 ^ 64) w.first (omega arith) h.first;
}

pub holding_holdable : {stack : List Entry} {held : Held} {w : Walk} → Holding stack held w → HoldableWalk w
unfolding walk_in
holding_holdable {stack} {held} h =
    rw (← h.holds) record {
      few = rw length_stack h.fits.few;
      states = stack_below_256 stack held.height held.nodes;
      sizes = stack_sizes_low stack held.height held.nodes h.fits.following;
      first = h.first;
    }

-- A walk has no more trees than nodes exactly if the array that holds it has.
module _ {n h nodes : ℕ} {stack : List Entry} (first : Option Subtree) where
  pub fills_few : Fills n stack h nodes → length (walk_in stack h nodes first).stack ≤ nodes
  unfolding walk_in
  fills_few fills = rw (length_stack stack h nodes) fills.few

  few_fills : FillsNodes n stack h nodes → length (walk_in stack h nodes first).stack ≤ nodes → Fills n stack h nodes
  unfolding walk_in
  few_fills fits few =
      record { places = fits.places; room = fits.room; few = rw (length_stack stack h nodes) at few; consecutive = fits.consecutive }

  module _ (fits : FillsNodes n stack h nodes) (A : Automaton) (begun : Walk) (few : length begun.stack ≤ begun.nodes) where
    pub step_fills : (symbol : ℕ) → advance A begun symbol ≡ found (walk_in stack h nodes first) → Fills n stack h nodes
    unfolding walk_in
    step_fills symbol e = few_fills fits (advance_few A begun symbol few e)

    pub walked_fills : (symbols : List ℕ) → advance_all A begun symbols ≡ found (walk_in stack h nodes first) → Fills n stack h nodes
    unfolding walk_in
    walked_fills symbols e = few_fills fits (advance_all_few A begun symbols few e)

-- The stack of some trees, the topmost last, up to an end.
abbrev pub entry_of : List ℕ → (start : ℕ) → start < 65536 → Entry
entry_of states start few = record {
  states = record { words = set_of states; four = length_set_of states; bits = bounded_set_of states };
  start = start;
  few = few;
}

pub lower : (end size : ℕ) → end < 65536 → end - size < 65536
lower end size few = omega arith

unfoldable pub entries_to : (end : ℕ) → end < 65536 → List Waiting → List Entry
entries_to end few [] = []
entries_to end few (t ∷ ts) =
    entries_to (end - t.size) (lower end t.size few) ts ++ (entry_of t.states (end - t.size) (lower end t.size few) ∷ [])

length_entries : (end : ℕ) (few : end < 65536) (ts : List Waiting) → length (entries_to end few ts) ≡ length ts
unfolding entries_to
length_entries end few [] = refl
length_entries end few (t ∷ ts) =
    omega (
      arith,
      length-append (entries_to (end - t.size) (lower end t.size few) ts) (entry_of t.states (end - t.size) (lower end t.size few) ∷ []),
      length_entries (end - t.size) (lower end t.size few) ts,
    )

module _ (end : ℕ) (few : end < 65536) (t : Waiting) (ts : List Waiting) where
  abbrev under : List Entry
  under = entries_to (end - t.size) (lower end t.size few) ts

  entry_set : set_at (entries_to end few (t ∷ ts)) (length ts) ≡ set_of t.states
  unfolding entries_to
  entry_set = rw (← length_entries (end - t.size) (lower end t.size few) ts) (set_last under _)

  entry_start : start_at (entries_to end few (t ∷ ts)) (length ts) ≡ end - t.size
  unfolding entries_to
  entry_start = rw (← length_entries (end - t.size) (lower end t.size few) ts) (start_last under _)

  others : SameUpTo (length ts) (entries_to end few (t ∷ ts)) under
  unfolding entries_to
  others e l =
      let long = length_entries (end - t.size) (lower end t.size few) ts in
      (set_before under _ e (omega arith), start_before under _ e (omega arith))

entries_follow : (end : ℕ) (few : end < 65536) (ts : List Waiting) → sizes_of ts ≤ end → Following (entries_to end few ts) (length ts) end
unfolding Following sizes_of
entries_follow end few [] fits = tt
entries_follow end few (t ∷ ts) fits =
    rw (entry_start end few t ts) (
      omega arith,
      following_same _ (entries_to end few (t ∷ ts)) (length ts) (end - t.size) (λ e l. (others end few t ts e l).1)
          (entries_follow (end - t.size) (lower end t.size few) ts (omega arith)),
    )

stack_held : (end : ℕ) (few : end < 65536) (ts : List Waiting) → sizes_of ts ≤ end → All (StatesBelow 256) ts
    → stack_in (entries_to end few ts) (length ts) end ≡ ts
unfolding stack_by sizes_of
stack_held end few [] fits none = refl
stack_held end few (t ∷ ts) fits (also (rise, low) os) =
    let states : states_in 256 (set_of t.states) ≡ t.states = unfold states_in in states_of_set t.states 256 (omega arith) low rise in
    let size : end - (end - t.size) ≡ t.size = omega arith in
    rw (
      entry_set end few t ts,
      entry_start end few t ts,
      states,
      size,
      stack_up_to (entries_to end few (t ∷ ts)) (entries_to (end - t.size) (lower end t.size few) ts) (length ts) (end - t.size) (others end few t ts),
      stack_held (end - t.size) (lower end t.size few) ts (omega arith) os,
    )

-- Room for one tree more is that for one of no states and no nodes.
bare : Entry
bare = entry_of [] 0 (omega arith)

pub holdable_held : (w : Walk) → HoldableWalk w → (stack : List Entry) × (held : Held) × Holding stack held w
unfolding walk_in
holdable_held w h =
    let ts = w.stack in
    let end = w.nodes in
    let few : end < 65536 = h.few.1 in
    let trees = entries_to end few ts in
    let stack = trees ++ (bare ∷ []) in
    let long = length_entries end few ts in
    let same : SameUpTo (length ts) stack trees =
    λ e l. (set_before trees (bare ∷ []) e (omega arith), start_before trees (bare ∷ []) e (omega arith)) in (
      stack,
      record { height = length ts; nodes = end; first = option_of w.first },
      record {
        fits = record {
          few = h.few;
          room = omega (arith, length-append trees (bare ∷ []));
          following = following_same trees stack (length ts) end (λ e l. (same e l).1) (entries_follow end few ts h.sizes);
        };
        first = rw first_kept h.first;
        holds = rw (first_kept, stack_up_to stack trees (length ts) end same, stack_held end few ts h.sizes h.states);
      },
    )

-- The same walk, in two places.
same_states_lem : (ws vs : List ℕ) → length ws ≡ 4 → length vs ≡ 4 → Bounded ws → Bounded vs → states_in 256 ws ≡ states_in 256 vs → ws ≡ vs
unfolding states_in
same_states_lem ws vs lw lv bw bv same =
    same_members ws vs lw lv bw bv (λ q low.
    sym (among_kept (member ws) 256 q low) ∙ ap (λ (qs : List ℕ). among qs q) same ∙ among_kept (member vs) 256 q low)

module _ (stack stack' : List Entry) where
  stack_alone : (h end : ℕ) → Following stack h end → Following stack' h end
      → stack_in stack h end ≡ stack_in stack' h end
      → (e : ℕ) → e < h → (states_in 256 (set_at stack e) ≡ states_in 256 (set_at stack' e)) × (start_at stack e ≡ start_at stack' e)
  unfolding stack_by Following
  stack_alone zero end c c' same e l = absurd (omega arith)
  stack_alone (suc h) end (low, below) (low', below') same e l =
      let tops : ◌≡◌ {A = Waiting} (record { states = states_in 256 (set_at stack h); size = end - start_at stack h })
      (record { states = states_in 256 (set_at stack' h); size = end - start_at stack' h }) = cc in
      let rests : stack_in stack h (start_at stack h) ≡ stack_in stack' h (start_at stack' h) = cc in
      let sizes = ap (λ (t : Waiting). t.size) tops in
      let start : start_at stack' h ≡ start_at stack h = omega arith in
      elim (dec_lt e h) [
        | yes m ↦ stack_alone h (start_at stack h) below (rw start at below') (rw start at rests) e m
        | no m ↦ let is : e ≡ h = omega arith in rw is (ap (λ (t : Waiting). t.states) tops, sym start)
      ]

module _ {stack stack' : List Entry} {held : Held} {w : Walk} where
  pub held_alone : {held' : Held} → Holding stack held w → Holding stack' held' w → (held ≡ held') × SameUpTo held.height stack stack'
  unfolding walk_in
  held_alone {held'} h h' =
      let same = h.holds ∙ sym h'.holds in
      let nodes : held.nodes ≡ held'.nodes = ap (λ (v : Walk). v.nodes) same in
      let first : held.first ≡ held'.first =
      sym (option_kept held.first) ∙ ap (λ (v : Walk). option_of v.first) same ∙ option_kept held'.first in
      let height : held.height ≡ held'.height =
      omega (
        arith,
        ap (λ (v : Walk). length v.stack) same,
        length_stack stack held.height held.nodes,
        length_stack stack' held'.height held'.nodes,
      ) in
      let stacks : stack_in stack held.height held.nodes ≡ stack_in stack' held.height held.nodes =
      rw (← height, ← nodes) at (ap (λ (v : Walk). v.stack) same) in
      let alone = stack_alone stack stack' held.height held.nodes h.fits.following (rw (← height, ← nodes) at h'.fits.following) stacks in (
        λ i. record { height = height i; nodes = nodes i; first = first i },
        λ e l.
            let (states, start) = alone e l in (
              same_states_lem (set_at stack e) (set_at stack' e) (set_length stack e) (set_length stack' e) (set_bounded stack e) (set_bounded stack' e) states,
              start,
            ),
      )

  pub held_below : SameUpTo held.height stack stack' → StackRoom (held.height + 1) stack' → Holding stack held w → Holding stack' held w
  unfolding walk_in
  held_below same room h = record {
    fits = record {
      few = h.fits.few;
      room = room;
      following = following_same stack stack' held.height held.nodes (λ e l. sym (same e l).1) h.fits.following;
    };
    first = h.first;
    holds = rw (← stack_up_to stack stack' held.height held.nodes same) h.holds;
  }
