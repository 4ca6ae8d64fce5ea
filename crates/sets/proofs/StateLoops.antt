-- Loops over the states of a set: what they have passed, which state comes, and that all were passed at the end. From the laws of rising lists; used by
-- the code that goes through the states of a set.
use Prim.Native.Nat.{ℕ, ◌<◌}
use native.Mathlib.Omega.{arith}
use mathlib.Core.Path.{◌≡◌, refl, sym, ap, ◌∙◌}
use mathlib.Core.List.{List, [], ◌∷◌, ◌++◌, append-nil, Memᴰ}
use mathlib.Core.Bool.{Bool, true, false, ◌&&◌, ◌||◌, and-false, or-false, or-true}
use mathlib.Core.Logic.{◌⊎◌, inl, inr}
use lib.Dec.{eqb, ltb}
use borrow.Author.Tests.{eqb-true, ltb-true, lt-ltb}
use Rattle.std.specs.Iterator.{Yields, YieldsFirst}
use Rattle.lists.specs.Lists.{Rising, among, any, from}
use Rattle.lists.proofs.Booleans.{and_true_in, and_true_out, or_true_left, or_true_out, same_bool}
use Rattle.lists.proofs.Keeping.{keep_in, keep_out}
use Rattle.lists.proofs.Ranges.{from_member, from_rising, member_from}
use Rattle.lists.proofs.Rising.{rising_above, rising_before, rising_keep, rising_part}
use Rattle.lists.proofs.Search.{among_in, among_out, any_append}
use Rattle.sets.specs.Set.{member, with_state}
use Rattle.sets.specs.Inner.{states_in, states_left, Has}
use Rattle.sets.specs.declared.states.States.{States}
use Rattle.sets.proofs.StateSets.{member_with, same_test}

-- The states of a set, as a test.
pub among_states : (set : List ℕ) (q : ℕ) → q < 256 → among (states_in 256 set) q ≡ member set q
unfolding states_in
among_states set q h =
    same_bool (λ e. (keep_out (member set) (from 0 256) (among_out _ q e)).1)
    (λ e. among_in (keep_in (member set) (from_member 256 0 q (omega arith) h) e))

states_rising : (set : List ℕ) → Rising (states_in 256 set)
unfolding states_in
states_rising set = rising_keep (member set) (from_rising 0 256)

state_of : (set : List ℕ) {q : ℕ} → Memᴰ q (states_in 256 set) → (q < 256) × (member set q ≡ true)
unfolding states_in
state_of set {q} m = let k = keep_out (member set) (from 0 256) m in ((member_from 256 0 q k.0).1, k.1)

-- What a loop has passed and what is left are the states of the set.

passed : (s t : States) (xs : List ℕ) → Yields (YieldsFirst states_left) s xs t → states_left s ≡ xs ++ states_left t
passed s t [] y = ap states_left y
passed s t (x ∷ xs) y = y.1 ∙ ap (λ (l : List ℕ). x ∷ l) (passed y.0 t xs y.2)

pub record Passed (set xs left : List ℕ) : Type 0 where
  pub all : states_in 256 set ≡ xs ++ left

pub states_passed : {made start : States} (set xs : List ℕ) (now : States) → states_left made ≡ states_in 256 set → start ≡ made
    → Yields (YieldsFirst states_left) start xs now → Passed set xs (states_left now)
states_passed {made} {start} set xs now all is y = record { all = sym all ∙ ap states_left (sym is) ∙ passed start now xs y }

-- The state that comes next.
pub record Comes (set xs : List ℕ) (q : ℕ) : Type 0 where
  pub is : member set q ≡ true
  pub low : q < 256
  pub below : (r : ℕ) → r < 256 → among xs r ≡ (ltb r q && member set r)

pub state_comes : {set xs left : List ℕ} {q : ℕ} (later : List ℕ) → Passed set xs left → left ≡ q ∷ later → Comes set xs q
unfolding among any
state_comes {set} {xs} {q = q} later p next = record { is = here.1; low = here.0; below = below }
  where
    all : states_in 256 set ≡ xs ++ (q ∷ later)
    all = p.all ∙ ap (λ (l : List ℕ). xs ++ l) next

    rise : Rising (xs ++ (q ∷ later))
    rise = rw (← all) (states_rising set)

    parts : (r : ℕ) → r < 256 → member set r ≡ (among xs r || (eqb q r || among later r))
    parts r h = sym (among_states set r h) ∙ ap (λ (l : List ℕ). among l r) all ∙ any_append (λ (p : ℕ). eqb p r) xs (q ∷ later)

    behind : (zs : List ℕ) → Memᴰ q (zs ++ (q ∷ later))
    behind [] = Memᴰ.head refl
    behind (z ∷ zs) = Memᴰ.tail (behind zs)

    here : (q < 256) × (member set q ≡ true)
    here = state_of set (rw all (behind xs))

    below : (r : ℕ) → r < 256 → among xs r ≡ (ltb r q && member set r)
    below r h =
        same_bool
        (λ e. and_true_in (lt-ltb r q (rising_before q later rise (among_out xs r e))) (parts r h ∙ or_true_left (eqb q r || among later r) e))
        (λ e. let k = and_true_out (ltb r q) (member set r) e in
        front (ltb-true r q k.0) (or_true_out (among xs r) (eqb q r || among later r) (sym (parts r h) ∙ k.1)))
      where
        front : r < q → (among xs r ≡ true) ⊎ ((eqb q r || among later r) ≡ true) → among xs r ≡ true
        front l (inl e) = e
        front l (inr e) = late l (or_true_out (eqb q r) (among later r) e)
          where
            late : r < q → (eqb q r ≡ true) ⊎ (among later r ≡ true) → among xs r ≡ true
            late l (inl e) = absurd (let same = eqb-true q r e in omega arith)
            late l (inr e) = absurd (let more = rising_above (rising_part xs rise) (among_out later r e) in omega arith)

-- No state is left.
pub states_done : {set xs left : List ℕ} → Passed set xs left → left ≡ [] → xs ≡ states_in 256 set
states_done {xs = xs} p none = sym (p.all ∙ ap (λ (l : List ℕ). xs ++ l) none ∙ append-nil xs)

pub among_done : {set xs left : List ℕ} → Passed set xs left → left ≡ [] → (q : ℕ) → q < 256 → among xs q ≡ member set q
among_done {set} p none q h = ap (λ (l : List ℕ). among l q) (states_done p none) ∙ among_states set q h

-- One state more that is passed.
pub among_more : (xs : List ℕ) (q r : ℕ) → among (xs ++ (q ∷ [])) r ≡ (among xs r || eqb q r)
unfolding among any
among_more xs q r = any_append (λ (p : ℕ). eqb p r) xs (q ∷ []) ∙ ap (λ (t : Bool). among xs r || t) (or-false (eqb q r))

-- The states so far that pass a test, gathered in a set.
module _ (low xs : List ℕ) (test : ℕ → Bool) (q : ℕ) (has : Has low (λ (r : ℕ). among xs r && test r)) where
  pub passed_in : test q ≡ true → Has (with_state low q) (λ (r : ℕ). among (xs ++ (q ∷ [])) r && test r)
  passed_in is r b = member_with low q r b ∙ rw (has r b, among_more) (go (eqb r q) (eqb q r) refl (same_test r q q r sym sym))
    where
      go : (t u : Bool) → eqb r q ≡ t → t ≡ u → (t || (among xs r && test r)) ≡ ((among xs r || u) && test r)
      go true u e f = rw (eqb-true r q e, is, ← f, or-true)
      go false u e f = rw (← f, or-false)

  pub passed_out : test q ≡ false → Has low (λ (r : ℕ). among (xs ++ (q ∷ [])) r && test r)
  passed_out is r b = has r b ∙ rw among_more (go (eqb q r) refl)
    where
      go : (t : Bool) → eqb q r ≡ t → (among xs r && test r) ≡ ((among xs r || t) && test r)
      go true e = rw (← eqb-true q r e, is, and-false, and-false)
      go false e = rw or-false
