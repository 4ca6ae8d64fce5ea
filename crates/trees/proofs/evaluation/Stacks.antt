-- The stack of the walk in an array: the trees that a node takes off it, the states that the rules of the node's symbol give from their sets, and the
-- stack after the node's own tree is put. From Entries and NodeStates; for `step`, and for Nodes and Holding.
use Prim.Native.Nat.{ℕ, zero, suc, ◌+◌, ◌-◌, ◌≤◌, ◌<◌}
use native.Mathlib.Nat.{add-zero, zero-add, suc-add, add_comm, add-sub_cancel}
use native.Mathlib.Numerals.{add-one}
use native.Mathlib.Omega.{arith}
use mathlib.Core.Path.{◌≡◌, refl, sym, ap, ◌∙◌}
use mathlib.Core.List.{List, [], ◌∷◌, ◌++◌, map, map-append, reverse, reverse_aux, reverse-cons, Memᴰ}
use mathlib.Core.Bool.{Bool, true, false, not, ◌&&◌, and-false}
use lib.ListN.{length, take, drop, get_or, set, length-append, get_or-append}
use lib.Seq.{drop-drop, get_or_at}
use lib.Dec.{eqb, ltb}
use borrow.Author.Tests.{eqb-true, lt-ltb}
use Rattle.lists.specs.Lists.{All, also, from, any, among}
use Rattle.lists.proofs.Booleans.{and_true_out}
use Rattle.lists.proofs.Elements.{all_map, all_member}
use Rattle.lists.proofs.Ranges.{from_step}
use Rattle.lists.proofs.Search.{among_kept, any_out, any_keep, any_same}
use Rattle.sets.specs.Set.{member, empty_set, same_set}
use Rattle.sets.specs.Entries.{entry_at}
use Rattle.sets.specs.Inner.{states_in, Has}
use Rattle.sets.specs.declared.set.StateSet.{StateSet}
use Rattle.sets.proofs.StateSets.{states_below, some_state}
use Rattle.automaton.specs.Automaton.{Rule, Automaton, WellFormedRule}
use Rattle.automaton.specs.Row.{rule_at}
use Rattle.automaton.proofs.Rows.{rule_in_lem, rules_at}
use Rattle.indexing.specs.Index.{keyed}
use Rattle.indexing.proofs.Indexing.{keyed_members}
use Rattle.trees.specs.Walk.{Waiting, have_in_order, leads_to, sizes_of, joined, is_none}
use Rattle.trees.specs.Inner.{Evaluable, set_at, start_at, in_order, rule_gives, stack_by, stack_in, ConsecutiveBy, Consecutive, start_of}
use Rattle.trees.specs.Holds.{SameUpTo}
use Rattle.trees.specs.declared.entry.Entry.{Entry}
use Rattle.trees.proofs.Walking.{is_none_kept}
use Rattle.trees.proofs.evaluation.Entries.{set_behind, set_put, start_put, set_below, start_below}

from_last : (e r : ℕ) → from e (suc r) ≡ from e r ++ ((r + e) ∷ [])
from_last e r = rw (← add-one, from_step, add_comm)

-- Where r trees start that stand on e others, and end where a node begins.
unfoldable pub start_on : List Entry → ℕ → ℕ → ℕ → ℕ
start_on stack e zero node = node
start_on stack e (suc r) node = start_at stack e

-- It is the start of the node's tree over them.
pub start_taken : (stack : List Entry) (e r node : ℕ) → r + e ≤ length stack → start_of (take r (drop e stack)) node ≡ start_on stack e r node
unfolding start_of start_on start_at
start_taken stack e zero node h = refl
start_taken [] e (suc r) node h = absurd (omega arith)
start_taken (x ∷ xs) zero (suc r) node h = refl
start_taken (x ∷ xs) (suc e) (suc r) node h = start_taken xs e (suc r) node (omega arith)

module _ (stack : List Entry) where
  start_first : (r e : ℕ) → start_on stack e r (start_at stack (r + e)) ≡ start_at stack e
  unfolding start_on
  start_first zero e = rw zero-add
  start_first (suc r) e = refl

  pub start_low : (r e end : ℕ) → Consecutive stack (r + e) end → start_on stack e r end ≤ end
  unfolding ConsecutiveBy start_on
  start_low zero e end c = omega arith
  start_low (suc r) e end c =
      let (low, below) = rw suc-add at c in
      omega (arith, start_low r e (start_at stack (r + e)) below, start_first r e)

  pub consecutive_below : (r e end : ℕ) → Consecutive stack (r + e) end → Consecutive stack e (start_on stack e r end)
  unfolding ConsecutiveBy start_on
  consecutive_below zero e end c = rw zero-add at c
  consecutive_below (suc r) e end c =
      let (low, below) = rw suc-add at c in
      rw start_first at (consecutive_below r e (start_at stack (r + e)) below)

sizes_reverse : (ws : List Waiting) → sizes_of (reverse ws) ≡ sizes_of ws
unfolding sizes_of
sizes_reverse ws = go ws [] ∙ add-zero (sizes_of ws)
  where
    go : (ws vs : List Waiting) → sizes_of (reverse_aux ws vs) ≡ sizes_of ws + sizes_of vs
    go [] vs = sym (zero-add (sizes_of vs))
    go (w ∷ ws) vs = go ws (w ∷ vs) ∙ omega arith

-- As `have_in_order`, over the trees' states alone.
unfoldable all_in_lem : List (List ℕ) → List ℕ → Bool
all_in_lem [] [] = true
all_in_lem [] (q ∷ qs) = false
all_in_lem (s ∷ ss) [] = false
all_in_lem (s ∷ ss) (q ∷ qs) = among s q && all_in_lem ss qs

abbrev states_of : Waiting → List ℕ
states_of w = w.states

have_states : (ws : List Waiting) (qs : List ℕ) → have_in_order ws qs ≡ all_in_lem (map states_of ws) qs
unfolding have_in_order all_in_lem
have_states [] [] = refl
have_states [] (q ∷ qs) = refl
have_states (w ∷ ws) [] = refl
have_states (w ∷ ws) (q ∷ qs) = rw (have_states ws qs)

-- States in order of some trees are in order of the first of them, as many as the states.
in_order_taken : (trees : List Entry) (qs : List ℕ) (r : ℕ) → length qs ≡ r → in_order trees qs ≡ in_order (take r trees) qs
unfolding in_order set_at entry_at
in_order_taken trees [] r l = refl
in_order_taken trees (q ∷ qs) zero l = absurd (omega arith)
in_order_taken [] (q ∷ qs) (suc r) l = refl
in_order_taken (t ∷ ts) (q ∷ qs) (suc r) l = rw (in_order_taken ts qs r (omega arith)) refl

module _ (stack : List Entry) where
  abbrev states_at : ℕ → List ℕ
  states_at e = states_in 256 (set_at stack e)

  all_in_order : (e r : ℕ) (qs : List ℕ) → length qs ≡ r → All (λ (q : ℕ). q < 256) qs
      → all_in_lem (map states_at (from e r)) qs ≡ in_order (drop e stack) qs
  unfolding all_in_lem from in_order states_in
  all_in_order e zero [] l low = refl
  all_in_order e zero (q ∷ qs) l low = absurd (omega arith)
  all_in_order e (suc r) [] l low = absurd (omega arith)
  all_in_order e (suc r) (q ∷ qs) l (also low lows) =
      rw (
        among_kept (member (set_at stack e)) 256 q low,
        all_in_order (suc e) r qs (omega arith) lows,
        set_behind stack e 0,
        add-zero,
        drop-drop,
        add-one,
      )

  pub length_stack : (h end : ℕ) → length (stack_in stack h end) ≡ h
  unfolding stack_by
  length_stack zero end = refl
  length_stack (suc h) end = ap suc (length_stack h (start_at stack h))

  -- Of a stack whose r topmost trees are taken off: what is left, their sets from below, and what their sizes add up to.
  pub stack_below : (r e end : ℕ) → drop r (stack_in stack (r + e) end) ≡ stack_in stack e (start_on stack e r end)
  unfolding stack_by start_on
  stack_below zero e end = rw zero-add
  stack_below (suc r) e end =
      rw suc-add (stack_below r e (start_at stack (r + e)) ∙ ap (stack_in stack e) (start_first stack r e))

  pub stack_states : (r e end : ℕ)
      → map states_of (reverse (take r (stack_in stack (r + e) end))) ≡ map states_at (from e r)
  unfolding stack_by from
  stack_states zero e end = refl
  stack_states (suc r) e end =
      let below = take r (stack_in stack (r + e) (start_at stack (r + e))) in
      let top : Waiting = record { states = states_at (r + e); size = end - start_at stack (r + e) } in
      rw suc-add
      (ap (map states_of) (reverse-cons top below) ∙ map-append states_of (reverse below) (top ∷ [])
      ∙ ap (λ (ss : List (List ℕ)). ss ++ (states_at (r + e) ∷ [])) (stack_states r e (start_at stack (r + e)))
      ∙ sym (ap (map states_at) (from_last e r) ∙ map-append states_at (from e r) ((r + e) ∷ [])))

  sizes_taken : (r e end : ℕ) → Consecutive stack (r + e) end
      → sizes_of (take r (stack_in stack (r + e) end)) + start_on stack e r end ≡ end
  unfolding sizes_of stack_by ConsecutiveBy start_on
  sizes_taken zero e end c = zero-add end
  sizes_taken (suc r) e end c =
      let (low, below) = rw suc-add at c in
      rw suc-add (omega (arith, sizes_taken r e (start_at stack (r + e)) below, start_first stack r e))

  pub stack_sizes : (r e end : ℕ) → Consecutive stack (r + e) end
      → sizes_of (reverse (take r (stack_in stack (r + e) end))) + start_on stack e r end ≡ end
  stack_sizes r e end c = rw sizes_reverse (sizes_taken r e end c)

-- A set is empty if it has no states.
pub no_states : (new : StateSet) → same_set new.words empty_set ≡ is_none (states_in 256 new.words)
unfolding states_in
no_states new = rw (is_none_kept, ← some_state new.words new.four new.bits) (go (same_set new.words empty_set))
  where
    go : (t : Bool) → t ≡ not (not t)
    go true = refl
    go false = refl

-- A search through rules, by their numbers.
any_numbered : (test : Rule → Bool) (rules us : List Rule) (i : ℕ) → i + length us ≡ length rules → drop i rules ≡ us
    → any test us ≡ any (λ (j : ℕ). test (rule_at rules j)) (from i (length us))
unfolding any from
any_numbered test rules [] i l is = refl
any_numbered test rules (u ∷ us) i l is =
    let next : rule_at rules i ∷ drop (i + 1) rules ≡ u ∷ us = sym (rules_at rules i (omega arith)) ∙ is in
    let here : rule_at rules i ≡ u = cc in
    let rest : drop (i + 1) rules ≡ us = cc in
    rw (here, any_numbered test rules us (suc i) (omega arith) (rw add-one at rest)) refl

-- The states of a node's tree: the targets of the rules of its symbol whose children are in order among the topmost sets.
module _ {A : Automaton} {index : List (List ℕ)} (v : Evaluable A index) where
  rule_at_lem : (i : ℕ) → i < length A.rules → WellFormedRule A (rule_at A.rules i)
  rule_at_lem i h = all_member v.well_formed.rules (rule_in_lem A.rules i h)

  pub children_low : (i : ℕ) → i < length A.rules → All (λ (q : ℕ). q < 256) (rule_at A.rules i).children
  children_low i h = all_map (λ q l. omega (arith, v.well_formed.states)) (rule_at_lem i h).children

  module _ (f : ℕ) (known : f < length A.ranks) where
    numbers_are : get_or index f [] ≡ keyed (λ (u : Rule). u.symbol) A.rules f
    numbers_are = v.index_is f (omega (arith, v.well_formed.symbols))

    rule_arity : (i : ℕ) → i < length A.rules → (rule_at A.rules i).symbol ≡ f → length (rule_at A.rules i).children ≡ get_or A.ranks f 0
    rule_arity i h is = (rule_at_lem i h).arity ∙ rw is

    pub rules_ranked : (i : ℕ) → Memᴰ i (get_or index f []) → (i < length A.rules) × (length (rule_at A.rules i).children ≡ get_or A.ranks f 0)
    rules_ranked i m =
        let (low, symbol) = keyed_members (λ (u : Rule). u.symbol) A.rules f i (rw (numbers_are) at m) in
        (low, rule_arity i low symbol)

    module _ (stack : List Entry) (e : ℕ) (children : List Waiting)
        (are : map states_of children ≡ map (states_at stack) (from e (get_or A.ranks f 0))) where
      abbrev taken : List Entry
      taken = take (get_or A.ranks f 0) (drop e stack)

      rule_leads : (q i : ℕ) → i < length A.rules → (t : Bool) → eqb (rule_at A.rules i).symbol f ≡ t
          → (t && rule_gives A.rules taken q i)
          ≡ (eqb (rule_at A.rules i).target q && (t && have_in_order children (rule_at A.rules i).children))
      unfolding rule_gives
      rule_leads q i h true is =
          let arity = rule_arity i h (eqb-true _ f is) in
          let in_order = all_in_order stack e (get_or A.ranks f 0) (rule_at A.rules i).children arity (children_low i h) in
          ap (λ (t : Bool). eqb (rule_at A.rules i).target q && t)
          (sym (have_states children (rule_at A.rules i).children ∙ rw are in_order
          ∙ in_order_taken (drop e stack) (rule_at A.rules i).children (get_or A.ranks f 0) arity))
      rule_leads q i h false is = sym (and-false (eqb (rule_at A.rules i).target q))

      node_leads : (q : ℕ) → any (rule_gives A.rules taken q) (get_or index f []) ≡ leads_to A.rules f children q
      unfolding keyed leads_to
      node_leads q =
          let k = length A.rules in
          rw (numbers_are)
          (any_keep (rule_gives A.rules taken q) _ (from 0 k)
          ∙ any_same _ _ 0 k (λ i a b. rule_leads q i (omega arith) (eqb (rule_at A.rules i).symbol f) refl)
          ∙ sym (any_numbered _ A.rules A.rules 0 (zero-add k) refl))

      leads_low : (q : ℕ) (t : Bool) → leads_to A.rules f children q ≡ t → t ≡ (ltb q A.states && t)
      unfolding leads_to
      leads_low q false e = sym (and-false (ltb q A.states))
      leads_low q true e =
          let u = any_out _ A.rules e in
          let target = eqb-true u.element.target q (and_true_out _ _ u.passes).0 in
          rw (lt-ltb q A.states (omega (arith, (all_member v.well_formed.rules u.member).target)))

      pub node_joined : (new : List ℕ) → Has new (λ (q : ℕ). any (rule_gives A.rules taken q) (get_or index f []))
          → (size : ℕ) → size ≡ suc (sizes_of children)
          → record { states = states_in 256 new; size = size } ≡ joined A f children
      unfolding joined
      node_joined new has size is =
          let states = states_below (leads_to A.rules f children) new A.states v.well_formed.states
          (λ q low. has q low ∙ node_leads q ∙ leads_low q _ refl) in
          rw (states, is)

-- Stacks that are the same below the height hold the same: what stands in them from there on does not matter.
module _ (starts starts' : ℕ → ℕ) where
  consecutive_same : (h end : ℕ) → ((e : ℕ) → e < h → starts' e ≡ starts e) → ConsecutiveBy starts h end → ConsecutiveBy starts' h end
  unfolding ConsecutiveBy
  consecutive_same zero end same c = c
  consecutive_same (suc h) end same c =
      rw (same h (omega arith)) (c.0, consecutive_same h (starts h) (λ e l. same e (omega arith)) c.1)

  stack_same : (sets sets' : ℕ → List ℕ) (h end : ℕ) → ((e : ℕ) → e < h → (sets e ≡ sets' e) × (starts e ≡ starts' e))
      → stack_by sets starts h end ≡ stack_by sets' starts' h end
  unfolding stack_by
  stack_same sets sets' zero end same = refl
  stack_same sets sets' (suc h) end same =
      rw ((same h (omega arith)).0, (same h (omega arith)).1, stack_same sets sets' h (starts' h) (λ e l. same e (omega arith)))

pub stack_up_to : (stack stack' : List Entry) (h end : ℕ) → SameUpTo h stack stack' → stack_in stack h end ≡ stack_in stack' h end
stack_up_to stack stack' h end same = stack_same (start_at stack) (start_at stack') (set_at stack) (set_at stack') h end same

-- A tree put at place e.
module _ (stack : List Entry) (e : ℕ) (t : Entry) (place : e < length stack) where
  pub put_consecutive : (end : ℕ) → t.start ≤ end → Consecutive stack e t.start → Consecutive (set stack e t) (e + 1) end
  unfolding ConsecutiveBy
  put_consecutive end l c =
      rw (add-one, start_put stack e t place) (l, consecutive_same (start_at stack) (start_at (set stack e t)) e t.start (start_below stack e t) c)

  pub put_stack : (end : ℕ)
      → stack_in (set stack e t) (e + 1) end ≡ record { states = states_in 256 t.states.words; size = end - t.start } ∷ stack_in stack e t.start
  unfolding stack_by
  put_stack end =
      rw (
        add-one,
        set_put stack e t place,
        start_put stack e t place,
        stack_up_to (set stack e t) stack e t.start (λ i l. (set_below stack e t i l, start_below stack e t i l)),
      )

-- Every stack of trees has starts: each tree starts after those under it. So the equation of a step is about every stack whose sizes add up to the
-- number of nodes.
unfoldable pub starts_of : List Waiting → List ℕ
starts_of [] = []
starts_of (w ∷ ws) = starts_of ws ++ (sizes_of ws ∷ [])

length_starts : (ws : List Waiting) → length (starts_of ws) ≡ length ws
unfolding starts_of
length_starts [] = refl
length_starts (w ∷ ws) = omega (arith, length-append (starts_of ws) (sizes_of ws ∷ []), length_starts ws)

last_start : (w : Waiting) (ws : List Waiting) → get_or (starts_of (w ∷ ws)) (length ws) 0 ≡ sizes_of ws
unfolding starts_of
last_start w ws = get_or_at (starts_of ws) (sizes_of ws) [] 0 (length ws) (length_starts ws)

other_starts : (w : Waiting) (ws : List Waiting) (e : ℕ) → e < length ws → get_or (starts_of (w ∷ ws)) e 0 ≡ get_or (starts_of ws) e 0
unfolding starts_of
other_starts w ws e l = get_or-append (starts_of ws) (sizes_of ws ∷ []) 0 e (omega (arith, length_starts ws))

abbrev starts_at : List Waiting → ℕ → ℕ
starts_at ws e = get_or (starts_of ws) e 0

pub starts_consecutive : (ws : List Waiting) → ConsecutiveBy (λ (e : ℕ). get_or (starts_of ws) e 0) (length ws) (sizes_of ws)
unfolding ConsecutiveBy sizes_of
starts_consecutive [] = refl
starts_consecutive (w ∷ ws) =
    rw (last_start w ws)
    (omega arith, consecutive_same (starts_at ws) (starts_at (w ∷ ws)) (length ws) (sizes_of ws) (other_starts w ws) (starts_consecutive ws))

abbrev size_of : Waiting → ℕ
size_of w = w.size

pub starts_sizes : (sets : ℕ → List ℕ) (ws : List Waiting)
    → map size_of (stack_by sets (λ (e : ℕ). get_or (starts_of ws) e 0) (length ws) (sizes_of ws)) ≡ map size_of ws
unfolding stack_by sizes_of
starts_sizes sets [] = refl
starts_sizes sets (w ∷ ws) =
    rw (
      last_start w ws,
      add-sub_cancel,
      stack_same (starts_at (w ∷ ws)) (starts_at ws) sets sets (length ws) (sizes_of ws) (λ e l. (refl, other_starts w ws e l)),
      starts_sizes sets ws,
    )
