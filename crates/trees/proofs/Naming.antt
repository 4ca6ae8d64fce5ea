-- The subtree that is named where a tree is not accepted: what holds of it. The smaller ones inside a subtree stand right before it in postfix order;
-- so they are passed before it is. From the laws of subtrees; for the theorems of `simulation`.
use Prim.Native.Nat.{ℕ, suc, ◌+◌, ◌-◌}
use native.Mathlib.Omega.{arith}
use mathlib.Core.Path.{◌≡◌, refl, sym, ap, ◌∙◌}
use mathlib.Core.Logic.{◌⊎◌, inl, inr}
use mathlib.Core.List.{List, [], ◌∷◌, ◌++◌, map, map-append, append_assoc, append-nil}
use mathlib.Core.Bool.{Bool, true, false, cond}
use lib.ListN.{length, take, drop, length-append, length-map}
use lib.Seq.{take-append_seam, drop_at}
use Rattle.lists.specs.Lists.{All, none, also}
use Rattle.lists.proofs.Elements.{all_append, all_take, all_drop}
use Rattle.automaton.specs.Automaton.{Automaton}
use Rattle.trees.specs.Tree.{Tree, Trees, node, nil, cons, accepts}
use Rattle.trees.specs.Postfix.{postfix}
use Rattle.trees.specs.Subtree.{subtrees, subtrees_in, smaller, has_state, first_bad, accepted, rejected, is_accepted}
use Rattle.trees.specs.Subtree.{First, nowhere, first_at, pointed, finding_in, Named}
use Rattle.trees.proofs.Subtrees.{top, postfix_tops, length_subtrees}

-- A tree comes right after the smaller ones inside it.
subtrees_smaller : (t : Tree) → subtrees t ≡ smaller t ++ (t ∷ [])
unfolding subtrees smaller
subtrees_smaller (node f ts) = refl

length_smaller : (t : Tree) → length (postfix t) ≡ length (smaller t) + 1
length_smaller t = sym (length_subtrees t) ∙ ap length (subtrees_smaller t) ∙ length-append (smaller t) (t ∷ [])

-- So does each of some trees, after those that were seen before them.
data Nested : List Tree → List Tree → Type 0 where
  done : {seen : List Tree} → Nested seen []
  next : {seen : List Tree} {t : Tree} {ts : List Tree} (front : List Tree) → seen ≡ front ++ smaller t → Nested (seen ++ (t ∷ [])) ts
      → Nested seen (t ∷ ts)

mutual
  unfolding subtrees smaller

  nested_tree : (t : Tree) (seen ts : List Tree) → Nested (seen ++ subtrees t) ts → Nested seen (subtrees t ++ ts)
  nested_tree (node f us) seen ts h =
      rw append_assoc
      (nested_trees us seen (node f us ∷ ts) (next {t = node f us} {ts = ts} seen refl (rw append_assoc h)))

  nested_trees : (us : Trees) (seen ts : List Tree) → Nested (seen ++ subtrees_in us) ts → Nested seen (subtrees_in us ++ ts)
  nested_trees nil seen ts h = rw append-nil at h
  nested_trees (cons u us) seen ts h =
      rw append_assoc
      (nested_tree u seen (subtrees_in us ++ ts) (nested_trees us (seen ++ subtrees u) ts (rw append_assoc h)))

nested : (t : Tree) → Nested [] (subtrees t)
nested t = rw append-nil at (nested_tree t [] [] done)

nested_at : {seen : List Tree} (before : List Tree) (s : Tree) (after : List Tree) → Nested seen (before ++ (s ∷ after))
    → (front : List Tree) × (seen ++ before ≡ front ++ smaller s)
nested_at {seen} [] s after (next front is rest) = (front, append-nil seen ∙ is)
nested_at {seen} (b ∷ before) s after (next front is rest) = let (f, e) = nested_at before s after rest in (f, rw append_assoc at e)

-- A subtree of t, with what stands before and after it.
module _ (t s : Tree) (before after : List Tree) (all : subtrees t ≡ before ++ (s ∷ after)) where
  inside : (front : List Tree) × (before ≡ front ++ smaller s)
  inside = nested_at before s after (rw all at (nested t))

  -- Its symbols are the last ones up to its top node.
  pub subtree_symbols : take (length (postfix s)) (drop (suc (length before) - length (postfix s)) (postfix t)) ≡ postfix s
  subtree_symbols =
      let (front, is) = inside in
      let own : map top (smaller s ++ (s ∷ [])) ≡ postfix s = ap (map top) (sym (subtrees_smaller s)) ∙ sym (postfix_tops s) in
      let parts : subtrees t ≡ front ++ ((smaller s ++ (s ∷ [])) ++ after) =
      all ∙ ap (λ (ts : List Tree). ts ++ (s ∷ after)) is ∙ simp append_assoc in
      let symbols : postfix t ≡ map top front ++ (postfix s ++ map top after) =
      postfix_tops t ∙ ap (map top) parts ∙ rw (map-append, map-append, own) in
      let begins : length (map top front) ≡ suc (length before) - length (postfix s) =
      omega (arith, length-map front top, ap length is, length-append front (smaller s), length_smaller s) in
      rw (symbols, drop_at (map top front) (postfix s ++ map top after) (suc (length before) - length (postfix s)) begins)
      (take-append_seam (postfix s) (map top after))

module _ (A : Automaton) where
  abbrev HaveStates : List Tree → Type 0
  HaveStates = All (λ (s : Tree). has_state A s ≡ true)

  -- The first that has no state, and what stands before it.
  record Stop (ts : List Tree) (i size : ℕ) : Type 0 where
    tree : Tree
    before : List Tree
    after : List Tree
    all : ts ≡ before ++ (tree ∷ after)
    place : length before ≡ i
    nodes : length (postfix tree) ≡ size
    earlier : HaveStates before
    itself : has_state A tree ≡ false

  first_stops : (seen ts : List Tree) {i size : ℕ} → HaveStates seen → first_bad A (length seen) ts ≡ first_at i size → Stop (seen ++ ts) i size
  unfolding first_bad
  first_stops seen [] h e = absurd (let z : ◌≡◌ {A = ℕ} 0 1 = cc in omega arith)
  first_stops seen (t ∷ ts) {i} {size} h e =
      let more : length (seen ++ (t ∷ [])) ≡ suc (length seen) = omega (arith, length-append seen (t ∷ [])) in
      go (has_state A t) refl (λ has f. first_stops (seen ++ (t ∷ [])) ts (all_append h (also has none)) (rw more f)) e
    where
      go : (b : Bool) → has_state A t ≡ b
          → (has_state A t ≡ true → first_bad A (suc (length seen)) ts ≡ first_at i size → Stop ((seen ++ (t ∷ [])) ++ ts) i size)
          → cond b (first_bad A (suc (length seen)) ts) (first_at (length seen) (length (postfix t))) ≡ first_at i size → Stop (seen ++ (t ∷ ts)) i size
      go true has later f = rw append_assoc at (later has f)
      go false has later f =
          record { tree = t; before = seen; after = ts; all = refl; place = cc; nodes = cc; earlier = h; itself = has }

  first_passes : (n : ℕ) (ts : List Tree) → first_bad A n ts ≡ nowhere → HaveStates ts
  unfolding first_bad
  first_passes n [] e = none
  first_passes n (t ∷ ts) e = go (has_state A t) refl (first_passes (suc n) ts) e
    where
      go : (b : Bool) → has_state A t ≡ b → (first_bad A (suc n) ts ≡ nowhere → HaveStates ts)
          → cond b (first_bad A (suc n) ts) (first_at n (length (postfix t))) ≡ nowhere → HaveStates (t ∷ ts)
      go true has later f = also has (later f)
      go false has later f = absurd (let z : ◌≡◌ {A = ℕ} 0 1 = cc in omega arith)

  module _ (t : Tree) (out : accepts A t ≡ false) where
    -- A subtree before which each has a state.
    named_at : (s : Tree) (before after : List Tree) {i size : ℕ} → subtrees t ≡ before ++ (s ∷ after) → length before ≡ i
        → length (postfix s) ≡ size → HaveStates before → (has_state A s ≡ false) ⊎ (s ≡ t) → Named A t i size
    named_at s before after all place nodes earlier itself =
        let (front, is) = inside t s before after all in
        record {
          not_accepted = out;
          subtree = s;
          before = before;
          after = after;
          is_subtree = all;
          top = place;
          nodes = nodes;
          symbols = rw (← place, ← nodes) (subtree_symbols t s before after all);
          earlier = earlier;
          inside = rw (drop_at front (smaller s) (length front) refl) at (all_drop (length front) (front ++ smaller s) (rw is at earlier));
          itself = itself;
        }

    named_by : {i size : ℕ} (first : First) → first_bad A 0 (subtrees t) ≡ first → pointed first (length (postfix t)) ≡ rejected i size
        → Named A t i size
    unfolding pointed
    named_by {i} {size} (first_at j n) f e =
        let s = first_stops [] (subtrees t) none f in
        let place : j ≡ i = cc in
        let nodes : n ≡ size = cc in
        named_at s.tree s.before s.after s.all (s.place ∙ place) (s.nodes ∙ nodes) s.earlier (inl s.itself)
    named_by {i} {size} nowhere f e =
        let place : length (postfix t) - 1 ≡ i = cc in
        let have = rw (subtrees_smaller t) at (first_passes 0 (subtrees t) f) in
        named_at t (smaller t) [] (subtrees_smaller t) (omega (arith, length_smaller t)) (cc) (rw (take-append_seam (smaller t) (t ∷ [])) at (all_take (length (smaller t)) (smaller t ++ (t ∷ [])) have)) (inr refl)

    pub named_subtree : {i size : ℕ} → finding_in A t ≡ rejected i size → Named A t i size
    unfolding finding_in
    named_subtree e = named_by (first_bad A 0 (subtrees t)) refl (rw out at e)

-- A finding is acceptance, and of a tree that is not accepted a subtree.
pub finding_accepts : (A : Automaton) (t : Tree) → is_accepted (finding_in A t) ≡ accepts A t
unfolding finding_in is_accepted pointed
finding_accepts A t = go (accepts A t) (first_bad A 0 (subtrees t))
  where
    go : (b : Bool) (first : First) → is_accepted (cond b accepted (pointed first (length (postfix t)))) ≡ b
    go true first = refl
    go false (first_at i size) = refl
    go false nowhere = refl
