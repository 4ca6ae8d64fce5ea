-- The walk agrees with the trees: folding `advance` over some symbols and closing gives what reading them as trees finds. The walk of a stack of
-- trees is a function of them, with which one node commutes. And what a walk can hold, node by node. From `rank_on` in Postfix and the laws of
-- subtrees; for evaluation and the theorems.
use Prim.Native.Nat.{ℕ, zero, suc, ◌+◌, ◌≤◌, ◌<◌}
use native.Mathlib.Nat.{add-zero, zero-add, suc-add, add-suc}
use native.Mathlib.Numerals.{add-one}
use native.Mathlib.Omega.{arith}
use mathlib.Core.Path.{◌≡◌, refl, sym, ap, ◌∙◌}
use mathlib.Core.List.{List, [], ◌∷◌, ◌++◌, map, reverse, reverse_aux}
use mathlib.Core.Bool.{Bool, true, false, cond, not, ◌&&◌, ◌||◌}
use lib.ListN.{length, take, drop, length-append, length-drop, length-map}
use lib.Dec.{eqb, leb}
use Rattle.lists.specs.Lists.{All, none, also, Rising, from, keep, any, among}
use Rattle.lists.proofs.Elements.{all_member, all_drop, member_all}
use Rattle.lists.proofs.Keeping.{keep_out, keep_agree}
use Rattle.lists.proofs.Mapping.{map_take, map_drop, map_reverse}
use Rattle.lists.proofs.Ranges.{from_rising, member_from}
use Rattle.lists.proofs.Rising.{rising_keep}
use Rattle.lists.proofs.Search.{among_kept, any_agree}
use Rattle.records.specs.Bytes.{numbers}
use Rattle.records.specs.Record.{opened, body_of}
use Rattle.records.specs.Read.{Read, found, refused, ◌>>=◌, ◌>>◌, check, map_read}
use Rattle.records.proofs.Reading.{bind_bind, bind_found, found_same}
use Rattle.automaton.specs.Automaton.{Automaton, WellFormed}
use Rattle.trees.specs.Tree.{Tree, node, belongs, belong_in_order, accepts}
use Rattle.trees.specs.Postfix.{trees_in, rank_on, push, push_all, single, is_tree_record, judge_tree, postfix, postfixes}
use Rattle.trees.specs.Subtree.{subtrees, has_state, First, nowhere, first_at, first_bad, finding_in}
use Rattle.trees.specs.Walk.{Waiting, Walk, start, have_in_order, leads_to, sizes_of, joined, is_none, noted, onto, advance, advance_all, closing}
use Rattle.trees.specs.Inner.{nodes_finding, tree_finding}
use Rattle.trees.specs.Holds as holds
use Rattle.trees.specs.Holds.{walk_finding, read_trees, StatesBelow, FirstBelow}
use Rattle.trees.proofs.Postfix.{ranked}
use Rattle.trees.proofs.Subtrees.{length_subtrees, read_node, read_one}

pub kept_below : (test : ℕ → Bool) (n : ℕ) → Rising (keep test (from 0 n)) × All (λ (q : ℕ). q < n) (keep test (from 0 n))
kept_below test n = (
  rising_keep test (from_rising 0 n),
  member_all _ (λ q m. omega (arith, member_from n 0 q (keep_out test (from 0 n) m).0)),
)

pub is_none_kept : (test : ℕ → Bool) (xs : List ℕ) → is_none (keep test xs) ≡ not (any test xs)
unfolding keep any is_none
is_none_kept test [] = refl
is_none_kept test (x ∷ xs) = go (test x) (is_none_kept test xs)
  where
    go : (t : Bool) → is_none (keep test xs) ≡ not (any test xs) → is_none (cond t (x ∷ keep test xs) (keep test xs)) ≡ not (t || any test xs)
    go true h = refl
    go false h = h

module _ (A : Automaton) where
  -- The walk of a stack of trees.
  unfoldable held : Tree → Waiting
  held t = record { states = keep (belongs A.rules t) (from 0 A.states); size = length (postfix t) }

  unfoldable walk_of : List Tree → Walk
  walk_of trees = record { stack = map held trees; nodes = length (read_trees trees); first = first_bad A 0 (read_trees trees) }

  sizes_held : (ts : List Tree) → sizes_of (map held ts) ≡ length (postfixes (trees_in ts))
  unfolding sizes_of trees_in postfix held
  sizes_held [] = refl
  sizes_held (t ∷ ts) = rw (length-append, sizes_held ts)

  first_more : (i : ℕ) (ts : List Tree) (t : Tree)
      → first_bad A i (ts ++ (t ∷ [])) ≡ noted (first_bad A i ts) (i + length ts) (held t).size (is_none (held t).states)
  unfolding first_bad noted has_state held
  first_more i [] t = rw (is_none_kept, add-zero) (go (any (belongs A.rules t) (from 0 A.states)))
    where
      go : (b : Bool) → cond b nowhere (first_at i (length (postfix t))) ≡ cond (not b) (first_at i (length (postfix t))) nowhere
      go true = refl
      go false = refl
  first_more i (s ∷ ts) t = go (any (belongs A.rules s) (from 0 A.states)) (rw suc-add at (first_more (suc i) ts t))
    where
      go : (b : Bool)
          → first_bad A (suc i) (ts ++ (t ∷ []))
          ≡ noted (first_bad A (suc i) ts) (suc (i + length ts)) (held t).size (is_none (held t).states)
          → cond b (first_bad A (suc i) (ts ++ (t ∷ []))) (first_at i (length (postfix s)))
          ≡ noted (cond b (first_bad A (suc i) ts) (first_at i (length (postfix s)))) (i + suc (length ts)) (held t).size (is_none (held t).states)
      go true h = rw add-suc h
      go false h = refl

-- With a well-formed automaton: its rules name states below their number, so that what is held of a tree decides.
module _ (A : Automaton) (wf : WellFormed A) where
  have_belong : (ts : List Tree) (qs : List ℕ) → All (λ (q : ℕ). q < A.states) qs
      → have_in_order (map (held A) ts) qs ≡ belong_in_order A.rules (trees_in ts) qs
  unfolding have_in_order trees_in belong_in_order held
  have_belong [] [] low = refl
  have_belong [] (q ∷ qs) low = refl
  have_belong (t ∷ ts) [] low = refl
  have_belong (t ∷ ts) (q ∷ qs) (also l ls) = rw (among_kept (belongs A.rules t) A.states q l, have_belong ts qs ls)

  joined_held : (f : ℕ) (ts : List Tree) → joined A f (map (held A) ts) ≡ held A (node f (trees_in ts))
  unfolding joined leads_to belongs postfix held
  joined_held f ts =
      let states =
      keep_agree (leads_to A.rules f (map (held A) ts)) (belongs A.rules (node f (trees_in ts))) (from 0 A.states) (λ q _.
      any_agree _ _ A.rules (λ u m.
      ap (λ (t : Bool). eqb u.target q && (eqb u.symbol f && t)) (have_belong ts u.children (all_member wf.rules m).children))) in
      let size : suc (sizes_of (map (held A) ts)) ≡ length (postfixes (trees_in ts) ++ (f ∷ [])) =
      omega (arith, sizes_held A ts, length-append (postfixes (trees_in ts)) (f ∷ [])) in
      rw (states, size)

  node_walk : (trees : List Tree) (f r : ℕ)
      → onto (walk_of A trees) (joined A f (reverse (take r (map (held A) trees)))) (drop r (map (held A) trees))
      ≡ walk_of A (node f (trees_in (reverse (take r trees))) ∷ drop r trees)
  unfolding onto walk_of
  node_walk trees f r =
      let children : reverse (take r (map (held A) trees)) ≡ map (held A) (reverse (take r trees)) = rw (← map_take, ← map_reverse) in
      let nodes : suc (length (read_trees trees)) ≡ length (read_trees trees ++ (node f (trees_in (reverse (take r trees))) ∷ [])) =
      omega (arith, length-append (read_trees trees) (node f (trees_in (reverse (take r trees))) ∷ [])) in
      rw (children, joined_held, read_node, first_more, zero-add, map_drop (held A) r trees, nodes)

  advance_walk : (trees : List Tree) (f : ℕ) → advance A (walk_of A trees) f ≡ map_read (walk_of A) (push A.ranks trees f)
  unfolding advance push walk_of ◌>>=◌ map_read
  advance_walk trees f = rw length-map (go (rank_on A.ranks (length trees) f))
    where
      go : (x : Read ℕ)
          → (x >>= (λ (r : ℕ). found (onto (walk_of A trees) (joined A f (reverse (take r (map (held A) trees)))) (drop r (map (held A) trees)))))
          ≡ map_read (walk_of A) (x >>= (λ (r : ℕ). found (node f (trees_in (reverse (take r trees))) ∷ drop r trees)))
      go (found r) = ap found (node_walk trees f r)
      go (refused cause) = refl

  advance_all_walk : (trees : List Tree) (fs : List ℕ) → advance_all A (walk_of A trees) fs ≡ map_read (walk_of A) (push_all A.ranks trees fs)
  unfolding advance_all push_all ◌>>=◌ map_read
  advance_all_walk trees [] = refl
  advance_all_walk trees (f ∷ fs) = rw (advance_walk trees f) (go (push A.ranks trees f) (λ next. advance_all_walk next fs))
    where
      go : (x : Read (List Tree)) → ((next : List Tree) → advance_all A (walk_of A next) fs ≡ map_read (walk_of A) (push_all A.ranks next fs))
          → (map_read (walk_of A) x >>= (λ (w : Walk). advance_all A w fs))
          ≡ map_read (walk_of A) (x >>= (λ (next : List Tree). push_all A.ranks next fs))
      go (found next) h = h next
      go (refused cause) h = refl

  closing_walk : (trees : List Tree) → closing A (walk_of A trees) ≡ single trees >>= (λ (t : Tree). found (finding_in A t))
  unfolding closing single ◌>>=◌ finding_in accepts held walk_of
  closing_walk [] = refl
  closing_walk (t ∷ []) =
      let same = any_agree (among (held A t).states) (belongs A.rules t) A.finals
      (λ q m. among_kept (belongs A.rules t) A.states q (all_member wf.finals m)) in
      rw (same, read_one, length_subtrees)
  closing_walk (t ∷ (s ∷ ts)) = refl

  pub walk_agrees : (symbols : List ℕ)
      → nodes_finding A symbols ≡ push_all A.ranks [] symbols >>= (λ (trees : List Tree). single trees >>= (λ (t : Tree). found (finding_in A t)))
  unfolding nodes_finding start read_trees trees_in subtrees first_bad walk_of ◌>>=◌ map_read
  walk_agrees symbols = rw (advance_all_walk [] symbols) (go (push_all A.ranks [] symbols))
    where
      go : (x : Read (List Tree)) → (map_read (walk_of A) x >>= closing A)
          ≡ x >>= (λ (trees : List Tree). single trees >>= (λ (t : Tree). found (finding_in A t)))
      go (found trees) = closing_walk trees
      go (refused cause) = refl

  pub walk_holds : (symbols : List ℕ) → advance_all A start symbols ≡ map_read (holds.walk_of A) (push_all A.ranks [] symbols)
  unfolding start read_trees trees_in subtrees first_bad walk_of held holds.walk_of holds.waiting_of
  walk_holds = advance_all_walk []

  pub tree_walk : (b : List ℕ) → tree_finding A b ≡ walk_finding A b
  unfolding tree_finding walk_finding judge_tree check ◌>>◌ ◌>>=◌
  tree_walk b = go (is_tree_record (opened b) b) (leb (length symbols) 16384)
    where
      symbols : List ℕ
      symbols = numbers (body_of b)

      go : (whole few : Bool)
          → ((check whole 8 >> (check few 11 >> (push_all A.ranks [] symbols >>= single))) >>= (λ (t : Tree). found (finding_in A t)))
          ≡ check whole 8 >> (check few 11 >> nodes_finding A symbols)
      go true true = bind_bind (push_all A.ranks [] symbols) single _ _ (λ trees. refl) ∙ sym (walk_agrees symbols)
      go true false = refl
      go false few = refl

-- The sizes of the trees that a node takes off the stack and of those that it leaves.
sizes_parts : (r : ℕ) (ws : List Waiting) → sizes_of (reverse (take r ws)) + sizes_of (drop r ws) ≡ sizes_of ws
unfolding sizes_of
sizes_parts r ws = go r ws [] ∙ add-zero (sizes_of ws)
  where
    go : (r : ℕ) (ws vs : List Waiting) → sizes_of (reverse_aux (take r ws) vs) + sizes_of (drop r ws) ≡ sizes_of ws + sizes_of vs
    go zero ws vs = omega arith
    go (suc r) [] vs = omega arith
    go (suc r) (w ∷ ws) vs = omega (arith, go r ws (w ∷ vs))

-- A first node after one node more, whose tree has no more nodes than there are then.
first_below : (first : First) (nodes size : ℕ) (bad : Bool) → FirstBelow (suc nodes) first → size ≤ suc nodes
    → FirstBelow (suc (suc nodes)) (noted first nodes size bad)
unfolding noted FirstBelow
first_below (first_at i s) nodes size bad (low, few) most = (omega arith, omega arith)
first_below nowhere nodes size true b most = (omega arith, omega arith)
first_below nowhere nodes size false b most = tt

-- What holds of every walk with an automaton from the start on: its trees belong to states of the automaton alone, each once and in order; they are at
-- most 1,024, and no more than the nodes, which their sizes add up to; a first node and its size are no more than the nodes either.
pub record Invariant (A : Automaton) (w : Walk) : Type 0 where
  pub states : All (StatesBelow A.states) w.stack
  pub sizes : sizes_of w.stack ≡ w.nodes
  pub few : length w.stack ≤ w.nodes
  pub waiting : length w.stack ≤ 1024
  pub first : FirstBelow (suc w.nodes) w.first

module _ (A : Automaton) where
  pub advance_counts : (w : Walk) (f : ℕ) {next : Walk} → advance A w f ≡ found next → next.nodes ≡ w.nodes + 1
  unfolding advance onto
  advance_counts w f e =
      let (r, passed, is) = bind_found (rank_on A.ranks (length w.stack) f) _ e in
      rw (← found_same is) (sym (add-one w.nodes))

  pub advance_grows : (w : Walk) (f : ℕ) {next : Walk} → advance A w f ≡ found next → length next.stack ≤ length w.stack + 1
  unfolding advance onto
  advance_grows w f e =
      let (r, passed, is) = bind_found (rank_on A.ranks (length w.stack) f) _ e in
      rw (← found_same is) (omega (arith, length-drop r w.stack))

  -- Trees that are no more than the nodes stay so.
  pub advance_few : (w : Walk) (f : ℕ) {next : Walk} → length w.stack ≤ w.nodes → advance A w f ≡ found next → length next.stack ≤ next.nodes
  advance_few w f few e = omega (arith, advance_counts w f e, advance_grows w f e)

  pub advance_all_few : (w : Walk) (fs : List ℕ) {last : Walk} → length w.stack ≤ w.nodes → advance_all A w fs ≡ found last → length last.stack ≤ last.nodes
  unfolding advance_all
  advance_all_few w [] few e = rw (← found_same e) few
  advance_all_few w (f ∷ fs) few e =
      let (next, one, more) = bind_found (advance A w f) _ e in
      advance_all_few next fs (advance_few w f few one) more

  pub start_invariant : Invariant A start
  unfolding start sizes_of FirstBelow
  start_invariant = record { states = none; sizes = refl; few = omega arith; waiting = omega arith; first = tt }

  pub advance_invariant : (w : Walk) (f : ℕ) {next : Walk} → Invariant A w → advance A w f ≡ found next → Invariant A next
  unfolding advance onto joined sizes_of
  advance_invariant w f h e =
      let (r, passed, is) = bind_found (rank_on A.ranks (length w.stack) f) _ e in
      let p = ranked A.ranks (length w.stack) f passed in
      let children = reverse (take r w.stack) in
      let parts : sizes_of children + sizes_of (drop r w.stack) ≡ w.nodes = omega (arith, sizes_parts r w.stack, h.sizes) in
      rw (← found_same is) record {
        states = also {x = joined A f children} (kept_below (leads_to A.rules f children) A.states) (all_drop r w.stack h.states);
        sizes = omega arith;
        few = omega (arith, length-drop r w.stack, h.few);
        waiting = omega (arith, length-drop r w.stack, p.few);
        first = first_below w.first w.nodes (suc (sizes_of children)) _ h.first (omega arith);
      }

  pub walked_invariant : (w : Walk) (fs : List ℕ) {last : Walk} → Invariant A w → advance_all A w fs ≡ found last
      → Invariant A last × (last.nodes ≡ w.nodes + length fs)
  unfolding advance_all
  walked_invariant w [] h e = rw (← found_same e) (h, sym (add-zero w.nodes))
  walked_invariant w (f ∷ fs) h e =
      let (next, one, more) = bind_found (advance A w f) _ e in
      let (after, counts) = walked_invariant next fs (advance_invariant w f h one) more in
      (after, omega (arith, advance_counts w f one))
