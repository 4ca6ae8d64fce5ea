-- What the sets of a node's children give: whether a rule's children are in them, child by child, and the targets of the rules whose children
-- are, rule by rule. From the laws of state sets and of Entries; for `fits`, `targets`, and for whole stacks in Stacks.
use Prim.Native.Nat.{ℕ, zero, suc, ◌+◌, ◌≤◌, ◌<◌}
use native.Mathlib.Numerals.{add-one}
use native.Mathlib.Omega.{arith}
use mathlib.Core.Path.{◌≡◌, refl, sym, ap, ◌∙◌}
use mathlib.Core.Logic.{inl, inr}
use mathlib.Core.List.{List, [], ◌∷◌, Memᴰ}
use mathlib.Core.Bool.{Bool, true, false, cond, ◌&&◌, ◌||◌, and-true, and-false, and_assoc, or_comm, or-false}
use lib.ListN.{length, take, drop, get_or}
use lib.Seq.{take-suc, drop-drop}
use lib.Dec.{eqb}
use Rattle.lists.specs.Lists.{All, also, any}
use Rattle.lists.proofs.Search.{any_none, any_append}
use Rattle.lists.proofs.Booleans.{and_false_left, and_false_right, or_true_out}
use Rattle.sets.specs.Set.{member, words, empty_set, with_state, same_set}
use Rattle.sets.specs.Entries.{entry_at}
use Rattle.sets.specs.Inner.{Has}
use Rattle.sets.proofs.StateSets.{member_empty, member_with, same_test, same_set_out}
use Rattle.automaton.specs.Automaton.{Rule}
use Rattle.automaton.specs.Row.{rule_of, rules_of, rule_at}
use Rattle.automaton.specs.declared.row.Row.{Row}
use Rattle.trees.specs.Inner.{set_at, in_order, rule_gives, start_of}
use Rattle.trees.specs.declared.entry.Entry.{Entry}
use Rattle.trees.proofs.evaluation.Entries.{set_behind, set_is}

-- Children in order.
module _ (trees : List Entry) where
  pub in_order_none : (children : List ℕ) → length children ≡ 0 → in_order trees children ≡ true
  unfolding in_order
  in_order_none [] none = refl
  in_order_none (q ∷ qs) none = absurd (omega arith)

  pub in_order_one : (children : List ℕ) → length children ≡ 1 → in_order trees children ≡ member (set_at trees 0) (get_or children 0 0)
  unfolding in_order
  in_order_one [] one = absurd (omega arith)
  in_order_one (q ∷ []) one = and-true (member (set_at trees 0) q)
  in_order_one (q ∷ (p ∷ qs)) one = absurd (omega arith)

  pub in_order_two : (children : List ℕ) → 2 ≤ length children
      → ((member (set_at trees 0) (get_or children 0 0) && member (set_at trees 1) (get_or children 1 0))
      && in_order (drop 2 trees) (drop 2 children)) ≡ in_order trees children
  unfolding in_order
  in_order_two [] two = absurd (omega arith)
  in_order_two (q ∷ []) two = absurd (omega arith)
  in_order_two (q ∷ (p ∷ qs)) two =
      and_assoc (member (set_at trees 0) q) (member (set_at trees 1) p) (in_order (drop 2 trees) qs)
      ∙ rw (set_behind trees 1 0, drop-drop) refl

  pub in_order_pair : (children : List ℕ) → length children ≡ 2
      → (member (set_at trees 0) (get_or children 0 0) && member (set_at trees 1) (get_or children 1 0)) ≡ in_order trees children
  unfolding in_order
  in_order_pair [] two = absurd (omega arith)
  in_order_pair (q ∷ []) two = absurd (omega arith)
  in_order_pair (q ∷ (p ∷ [])) two = sym (and-true _) ∙ in_order_two (q ∷ (p ∷ [])) (omega arith)
  in_order_pair (q ∷ (p ∷ (r ∷ qs))) two = absurd (omega arith)

-- A set that is read.
pub member_read : (trees : List Entry) (e q : ℕ) (t : Entry) → e < length trees → t ≡ get_or trees e t
    → member t.states.words q ≡ member (set_at trees e) q
member_read trees e q t h is = ap (λ (ws : List ℕ). member ws q) (set_is trees e t h is)

-- The next child, where so many trees and children are left.
pub in_order_next : {trees trees' : List Entry} {children children' : List ℕ} (t : Entry) (q : ℕ) → trees ≡ t ∷ trees' → children ≡ q ∷ children'
    → in_order trees children ≡ (member t.states.words q && in_order trees' children')
unfolding in_order set_at entry_at
in_order_next t q more more' = rw (more, more') refl

empty_four : length empty_set ≡ 4
unfolding empty_set words
empty_four = refl

in_order_empty : (trees : List Entry) (children : List ℕ) → All (λ (q : ℕ). q < 256) children → length children ≡ length trees
    → any (λ (t : Entry). same_set t.states.words empty_set) trees ≡ true → in_order trees children ≡ false
unfolding any in_order set_at entry_at
in_order_empty [] children lows l h = cc
in_order_empty (t ∷ ts) [] lows l h = absurd (omega arith)
in_order_empty (t ∷ ts) (q ∷ qs) (also low lows) l h =
    elim (or_true_out (same_set t.states.words empty_set) _ h) [
      | inl same ↦ and_false_left {s = member t.states.words q} _ (rw (same_set_out t.states.words empty_set t.states.four empty_four same) (member_empty q low))
      | inr later ↦ and_false_right (member t.states.words q) (in_order_empty ts qs lows (omega arith) later)
    ]

-- The rule of a row that is read.
pub rule_is : (rows : List Row) (i : ℕ) (row : Row) → i < length rows → row ≡ get_or rows i row → rule_of row ≡ rule_at (rules_of rows) i
unfolding rule_at
rule_is [] i row h is = absurd (omega arith)
rule_is (x ∷ xs) zero row h is = ap rule_of is
rule_is (x ∷ xs) (suc i) row h is = rule_is xs i row (omega arith) is

-- Where a node's tree starts.
pub start_first : (children : List Entry) (node : ℕ) (t : Entry) → 0 < length children → t ≡ get_or children 0 t → t.start ≡ start_of children node
unfolding start_of
start_first [] node t some is = absurd (omega arith)
start_first (x ∷ xs) node t some is = ap (λ (s : Entry). s.start) is

pub start_leaf : (children : List Entry) (node : ℕ) → length children ≤ 0 → node ≡ start_of children node
unfolding start_of
start_leaf [] node none = refl
start_leaf (x ∷ xs) node none = absurd (omega arith)

-- Rules.
module _ (rules : List Rule) (numbers : List ℕ) (trees : List Entry) where
  -- No rule gives a state where one of the sets is empty.
  pub no_targets_of_empty : ((i : ℕ) → Memᴰ i numbers → All (λ (q : ℕ). q < 256) (rule_at rules i).children)
      → ((i : ℕ) → Memᴰ i numbers → (i < length rules) × (length (rule_at rules i).children ≡ length trees))
      → any (λ (t : Entry). same_set t.states.words empty_set) trees ≡ true
      → Has empty_set (λ (q : ℕ). any (rule_gives rules trees q) numbers)
  unfolding rule_gives
  no_targets_of_empty lows ranked h q low =
      member_empty q low
      ∙ sym (any_none _ numbers
      (λ i m. and_false_right (eqb (rule_at rules i).target q)
      (in_order_empty trees (rule_at rules i).children (lows i m) (ranked i m).1 h)))

  pub targets_one_more : (set : List ℕ) (j : ℕ) → j < length numbers → Has set (λ (q : ℕ). any (rule_gives rules trees q) (take j numbers))
      → Has (cond (in_order trees (rule_at rules (get_or numbers j 0)).children) (with_state set (rule_at rules (get_or numbers j 0)).target) set)
      (λ (q : ℕ). any (rule_gives rules trees q) (take (j + 1) numbers))
  unfolding any rule_gives
  targets_one_more set j h has q low =
      rw (add-one, take-suc numbers j 0 h, any_append, or-false)
      (go (in_order trees (rule_at rules (get_or numbers j 0)).children))
    where
      target : ℕ
      target = (rule_at rules (get_or numbers j 0)).target

      go : (t : Bool) → member (cond t (with_state set target) set) q ≡ (any (rule_gives rules trees q) (take j numbers) || (eqb target q && t))
      go true =
          member_with set target q low
          ∙ rw (and-true, has q low, same_test q target target q (λ e. sym e) (λ e. sym e)) (or_comm (eqb target q) _)
      go false = rw (and-false, or-false) (has q low)
