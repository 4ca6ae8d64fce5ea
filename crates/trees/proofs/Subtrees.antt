-- Subtrees in postfix order: their top symbols are the tree's own symbols, and a node that is put on a stack of trees is one subtree more. From the
-- definitions alone; for reading trees back, for the walk and for the subtree that a check names.
use Prim.Native.Nat.{ℕ}
use mathlib.Core.Path.{◌≡◌, refl, sym, ap, ◌∙◌}
use mathlib.Core.List.{List, [], ◌∷◌, ◌++◌, map, map-append, reverse, append_assoc, append-nil, reverse-append, reverse-cons}
use lib.ListN.{length, take, drop, length-map, take-append-drop}
use Rattle.trees.specs.Tree.{Tree, Trees, node, nil, cons}
use Rattle.trees.specs.Postfix.{trees_in, postfix, postfixes}
use Rattle.trees.specs.Subtree.{subtrees, subtrees_in}
use Rattle.trees.specs.Holds.{read_trees}

unfoldable pub top : Tree → ℕ
top (node f ts) = f

mutual
  unfolding postfix subtrees top

  pub postfix_tops : (t : Tree) → postfix t ≡ map top (subtrees t)
  postfix_tops (node f ts) = rw (map-append, postfixes_tops ts)

  pub postfixes_tops : (ts : Trees) → postfixes ts ≡ map top (subtrees_in ts)
  postfixes_tops nil = refl
  postfixes_tops (cons t ts) = rw (map-append, postfix_tops t, postfixes_tops ts)

pub length_subtrees : (t : Tree) → length (subtrees t) ≡ length (postfix t)
length_subtrees t = sym (ap length (postfix_tops t) ∙ length-map (subtrees t) top)

subtrees_append : (ss ts : List Tree) → subtrees_in (trees_in (ss ++ ts)) ≡ subtrees_in (trees_in ss) ++ subtrees_in (trees_in ts)
unfolding trees_in subtrees
subtrees_append [] ts = refl
subtrees_append (s ∷ ss) ts = rw (subtrees_append ss ts, append_assoc)

pub read_node : (f r : ℕ) (stack : List Tree) → let t = node f (trees_in (reverse (take r stack))) in
    read_trees (t ∷ drop r stack) ≡ read_trees stack ++ (t ∷ [])
unfolding read_trees trees_in subtrees
read_node f r stack =
    let children = trees_in (reverse (take r stack)) in
    let below = trees_in (reverse (drop r stack)) in
    let all : subtrees_in (trees_in (reverse stack)) ≡ subtrees_in below ++ subtrees_in children =
    ap (λ (ts : List Tree). subtrees_in (trees_in (reverse ts))) (sym (take-append-drop r stack))
    ∙ rw (reverse-append, subtrees_append) in
    rw (reverse-cons, subtrees_append, append-nil, all, append_assoc)

pub read_one : (t : Tree) → read_trees (t ∷ []) ≡ subtrees t
unfolding read_trees trees_in subtrees
read_one t = append-nil (subtrees t)
