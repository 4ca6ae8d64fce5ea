-- Trees in postfix order: what one node asks for, by the tests of `rank_on`; that a tree over the symbols, written, is read back as that tree
-- exactly if it keeps both limits; and that a tree that is read is one over the symbols and is written as the bytes that it was read from.
-- From the laws of records and fields; for the theorems of `simulation`, and the part on `rank_on` for the walk.
use Prim.Native.Nat.{ℕ, suc, ◌+◌, ◌-◌, ◌*◌, ◌%◌, ◌≤◌, ◌<◌, max}
use native.Mathlib.Nat.{zero-add}
use native.Mathlib.Omega.{arith}
use native.Mathlib.Decide.{dec_le}
use mathlib.Core.Path.{◌≡◌, refl, sym, ap, ap₂, ◌∙◌}
use mathlib.Core.Logic.{◌↔◌}
use mathlib.Core.List.{List, [], ◌∷◌, ◌++◌, map-append, reverse, reverse_aux, append_assoc, append-nil, reverse_aux-eq, reverse-reverse}
use mathlib.Core.Bool.{true, false≢true}
use lib.ListN.{length, take, drop, get_or, length-append, length-reverse}
use lib.Seq.{take_at, drop_at, drop-length, length-take-le}
use lib.Dec.{leb, ltb, eqb}
use borrow.Author.Tests.{lt-ltb, le-ltb, le-leb, lt-leb, ltb-true, leb-true, eqb-true, eq-eqb}
use Rattle.lists.specs.Lists.{All, none, also}
use Rattle.lists.proofs.Elements.{all_first, all_map, all_append, all_drop, all_reverse, all_take}
use Rattle.lists.proofs.Booleans.{and_true_out}
use Rattle.records.specs.Record as records
use Rattle.records.specs.Read.{Read, found, refused, ◌>>=◌, ◌>>◌, check}
use Rattle.records.specs.Bytes.{numbers, fields}
use Rattle.records.specs.Record.{Opening, whole, nothing, opened, body_of, encode_record}
use Rattle.records.proofs.Fields.{Bytes, fields_numbers, numbers_fields, length_fields}
use Rattle.records.proofs.Records.{record_opens, record_body, length_record, record_encoded, bytes_body}
use Rattle.records.proofs.Reading.{refused≢found, found_same, checked, bind_found}
use Rattle.trees.specs.Tree.{Tree, Trees, node, nil, cons, arity_of, Over, AllOver}
use Rattle.trees.specs.Postfix.{trees_in, rank_on, push, push_all, single, is_tree_record, judge_tree, postfix, postfixes, peak, peak_above}
use Rattle.trees.specs.Postfix.{encode_tree}
use Rattle.trees.specs.Holds.{read_trees}
use Rattle.trees.proofs.Subtrees.{top, postfixes_tops, read_node}

-- Trees as a list, and back.
unfoldable tree_list : Trees → List Tree
tree_list nil = []
tree_list (cons t ts) = t ∷ tree_list ts

trees_in_tree_list : (ts : Trees) → trees_in (tree_list ts) ≡ ts
unfolding tree_list trees_in
trees_in_tree_list nil = refl
trees_in_tree_list (cons t ts) = ap (cons t) (trees_in_tree_list ts)

arity_trees_in : (ts : List Tree) → arity_of (trees_in ts) ≡ length ts
unfolding trees_in arity_of
arity_trees_in [] = refl
arity_trees_in (t ∷ ts) = ap suc (arity_trees_in ts)

length_tree_list : (ts : Trees) → length (tree_list ts) ≡ arity_of ts
length_tree_list ts = sym (arity_trees_in (tree_list ts)) ∙ ap arity_of (trees_in_tree_list ts)

-- One node, by the tests of `rank_on`.
module _ (ranks : List ℕ) (height f : ℕ) where
  pub rank_unknown : length ranks ≤ f → rank_on ranks height f ≡ refused 9
  unfolding rank_on check ◌>>◌
  rank_unknown h = rw (le-ltb f (length ranks) h)

  module _ (known : f < length ranks) where
    pub rank_unbalanced : height < get_or ranks f 0 → rank_on ranks height f ≡ refused 10
    unfolding rank_on check ◌>>◌
    rank_unbalanced h = rw (lt-ltb f (length ranks) known, lt-leb (get_or ranks f 0) height h)

    module _ (enough : get_or ranks f 0 ≤ height) where
      pub rank_above_limit : 1024 ≤ height - get_or ranks f 0 → rank_on ranks height f ≡ refused 11
      unfolding rank_on check ◌>>◌
      rank_above_limit h =
          rw (
            lt-ltb f (length ranks) known,
            le-leb (get_or ranks f 0) height enough,
            lt-leb (1 + (height - get_or ranks f 0)) 1024 (omega arith),
          )

      pub rank_found : height - get_or ranks f 0 < 1024 → rank_on ranks height f ≡ found (get_or ranks f 0)
      unfolding rank_on check ◌>>◌
      rank_found h =
          rw (
            lt-ltb f (length ranks) known,
            le-leb (get_or ranks f 0) height enough,
            le-leb (1 + (height - get_or ranks f 0)) 1024 (omega arith),
          )

-- What a node that is not refused has passed.
pub record Ranked (ranks : List ℕ) (height f r : ℕ) : Type 0 where
  pub symbol : f < length ranks
  pub rank : r ≡ get_or ranks f 0
  pub enough : r ≤ height
  pub few : height - r < 1024

pub ranked : (ranks : List ℕ) (height f : ℕ) {r : ℕ} → rank_on ranks height f ≡ found r → Ranked ranks height f r
unfolding rank_on
ranked ranks height f {r} h =
    let a = checked (ltb f (length ranks)) 9 _ h in
    let b = checked (leb (get_or ranks f 0) height) 10 _ a.1 in
    let c = checked (leb (1 + (height - get_or ranks f 0)) 1024) 11 _ b.1 in
    let rank : get_or ranks f 0 ≡ r = found_same c.1 in
    let enough = leb-true (get_or ranks f 0) height b.0 in
    let few = leb-true (1 + (height - get_or ranks f 0)) 1024 c.0 in
    record { symbol = ltb-true f (length ranks) a.0; rank = sym rank; enough = omega arith; few = omega arith }

-- Reading back. x reads trees of which n wait at most: within the limit it comes to y, above the limit it is refused.
record Limited {A : Type 0} (n : ℕ) (x y : Read A) : Type 0 where
  fits : n ≤ 1024 → x ≡ y
  breaks : 1024 < n → x ≡ refused 11

-- One reading after the other: at most the larger number waits.
limited_trans : {A : Type 0} {x y z : Read A} {m n k : ℕ} → Limited m x y → (m ≤ 1024 → Limited n y z) → k ≡ max m n → Limited k x z
limited_trans {m = m} a b e = record {
  fits = λ h. a.fits (omega arith) ∙ (b (omega arith)).fits (omega arith);
  breaks = λ h. elim (dec_le m 1024) [
    | yes l ↦ a.fits l ∙ (b l).breaks (omega arith)
    | no g ↦ a.breaks (omega arith)
  ];
}

limited_then : {A B : Type 0} {x : Read A} {y : A} {n : ℕ} (f : A → Read B) → Limited n x (found y) → Limited n (x >>= f) (f y)
unfolding ◌>>=◌
limited_then f a = record { fits = λ h. rw (a.fits h); breaks = λ h. rw (a.breaks h) }

peak_positive : (t : Tree) → 1 ≤ peak t
unfolding peak
peak_positive (node f ts) = omega arith

module _ (ranks : List ℕ) where
  -- A node takes the trees of its children off the stack.
  module _ (f : ℕ) (ts : Trees) (stack : List Tree) (w : arity_of ts ≡ get_or ranks f 0) where
    on_stack : List Tree
    on_stack = reverse_aux (tree_list ts) stack

    splits : on_stack ≡ reverse (tree_list ts) ++ stack
    unfolding on_stack
    splits = reverse_aux-eq (tree_list ts) stack

    as_many : length (reverse (tree_list ts)) ≡ get_or ranks f 0
    as_many = length-reverse (tree_list ts) ∙ length_tree_list ts ∙ w

    long : length on_stack ≡ get_or ranks f 0 + length stack
    long = rw (splits, length-append, as_many)

    push_node : f < length ranks → Limited (length stack + 1) (push ranks on_stack f) (found (node f ts ∷ stack))
    unfolding push ◌>>=◌
    push_node h = record {
      fits = λ l.
          rw (
            rank_found ranks (length on_stack) f h (omega (arith, long)) (omega (arith, long)),
            splits,
            take_at (reverse (tree_list ts)) stack (get_or ranks f 0) as_many,
            drop_at (reverse (tree_list ts)) stack (get_or ranks f 0) as_many,
            reverse-reverse,
            trees_in_tree_list,
          );
      breaks = λ g. rw (rank_above_limit ranks (length on_stack) f h (omega (arith, long)) (omega (arith, long)));
    }

  mutual
    unfolding postfix push_all Over tree_list on_stack peak

    read_back : (t : Tree) (stack : List Tree) (fs : List ℕ) → Over ranks t → length stack ≤ 1024
        → Limited (length stack + peak t) (push_all ranks stack (postfix t ++ fs)) (push_all ranks (t ∷ stack) fs)
    read_back (node f ts) stack fs o h =
        rw append_assoc
        (limited_trans (read_all ts stack (f ∷ fs) 0 (length stack) (omega arith) o.2 h)
        (λ l. limited_then (λ (next : List Tree). push_all ranks next fs) (push_node f ts stack o.1 o.0)) (omega arith))

    -- The i trees on top of the stack are the children of the same node that stand before these.
    read_all : (ts : Trees) (stack : List Tree) (fs : List ℕ) (i base : ℕ) → length stack ≡ base + i → AllOver ranks ts
        → length stack ≤ 1024
        → Limited (base + peak_above i ts) (push_all ranks stack (postfixes ts ++ fs)) (push_all ranks (reverse_aux (tree_list ts) stack) fs)
    read_all nil stack fs i base e o h = record { fits = λ l. refl; breaks = λ g. absurd (omega arith) }
    read_all (cons t ts) stack fs i base e o h =
        rw append_assoc
        (limited_trans (read_back t stack (postfixes ts ++ fs) o.0 h)
        (λ l. read_all ts (t ∷ stack) fs (suc i) base (omega arith) o.1 (omega (arith, peak_positive t))) (omega arith))

  -- A tree over the symbols is read back as that tree, unless too many trees wait.
  tree_read : (t : Tree) → Over ranks t → Limited (peak t) (push_all ranks [] (postfix t)) (found (t ∷ []))
  unfolding push_all
  tree_read t o = rw (append-nil, zero-add) at (read_back t [] [] o (omega arith))

-- The symbols that a stack of trees spells, from its bottom up.
abbrev spelled : List Tree → List ℕ
spelled stack = postfixes (trees_in (reverse stack))

over_trees : (ranks : List ℕ) (ts : List Tree) → All (Over ranks) ts → AllOver ranks (trees_in ts)
unfolding trees_in Over
over_trees ranks [] none = tt
over_trees ranks (t ∷ ts) (also o os) = (o, over_trees ranks ts os)

-- The trees on a stack are trees over the symbols, and spell, with the symbols that are left, all symbols that were read.
record Spelling (ranks symbols : List ℕ) (stack : List Tree) (left : List ℕ) : Type 0 where
  spells : spelled stack ++ left ≡ symbols
  over : All (Over ranks) stack

push_spelling : {ranks symbols : List ℕ} {stack : List Tree} {f r : ℕ} {fs : List ℕ} → Ranked ranks (length stack) f r
    → Spelling ranks symbols stack (f ∷ fs)
    → Spelling ranks symbols (node f (trees_in (reverse (take r stack))) ∷ drop r stack) fs
unfolding top Over read_trees
push_spelling {ranks} {symbols} {stack} {f} {r} {fs} p s =
    let ts = take r stack in
    let children = trees_in (reverse ts) in
    let arity : arity_of children ≡ get_or ranks f 0 =
    arity_trees_in (reverse ts) ∙ length-reverse ts ∙ length-take-le r stack p.enough ∙ p.rank in
    let one_more : spelled (node f children ∷ drop r stack) ≡ spelled stack ++ (f ∷ []) =
    rw (postfixes_tops, postfixes_tops, read_node f r stack, map-append) in
    record {
      spells = rw (one_more, append_assoc) s.spells;
      over = also {x = node f children}
          (p.symbol, arity, over_trees ranks (reverse ts) (all_reverse ts [] (all_take r stack s.over) none))
          (all_drop r stack s.over);
    }

push_all_spelling : (ranks symbols : List ℕ) (stack : List Tree) (fs : List ℕ) (last : List Tree) → push_all ranks stack fs ≡ found last
    → Spelling ranks symbols stack fs → Spelling ranks symbols last []
unfolding push_all push
push_all_spelling ranks symbols stack [] last h s = let e : stack ≡ last = cc in rw (← e) s
push_all_spelling ranks symbols stack (f ∷ fs) last h s =
    let n = bind_found (push ranks stack f) (λ (next : List Tree). push_all ranks next fs) h in
    let (r, passed, pushed) = bind_found (rank_on ranks (length stack) f) _ n.1 in
    push_all_spelling ranks symbols n.0 fs last n.2
    (rw (found_same pushed) at (push_spelling (ranked ranks (length stack) f passed) s))

-- One tree is left.
single_found : (stack : List Tree) (t : Tree) → single stack ≡ found t → stack ≡ t ∷ []
unfolding single
single_found [] t h = absurd (refused≢found h)
single_found (s ∷ []) t h = let e : s ≡ t = cc in ap (λ (x : Tree). x ∷ []) e
single_found (s ∷ (r ∷ ts)) t h = absurd (refused≢found h)

-- What a judge that finds a tree has seen.
pub record TreeFound (ranks b : List ℕ) (t : Tree) : Type 0 where
  pub opens : opened b ≡ whole 16 (length b)
  pub even : length (body_of b) % 2 ≡ 0
  pub nodes : length (numbers (body_of b)) ≤ 16384
  pub spells : postfix t ≡ numbers (body_of b)
  pub over : Over ranks t

is_record : (o : Opening) (b : List ℕ) → is_tree_record o b ≡ true → (o ≡ whole 16 (length b)) × (length (body_of b) % 2 ≡ 0)
unfolding is_tree_record
is_record (whole kind end) b h =
    let a = and_true_out (eqb kind 16) _ h in
    let c = and_true_out (eqb end (length b)) _ a.1 in
    (ap₂ whole (eqb-true kind 16 a.0) (eqb-true end (length b) c.0), eqb-true (length (body_of b) % 2) 0 c.1)
is_record nothing b h = absurd (false≢true h)
is_record (records.refused cause) b h = absurd (false≢true h)

pub tree_found : (ranks b : List ℕ) (t : Tree) → judge_tree ranks b ≡ found t → TreeFound ranks b t
unfolding judge_tree trees_in postfix
tree_found ranks b t h =
    let fs = numbers (body_of b) in
    let a = checked (is_tree_record (opened b) b) 8 _ h in
    let c = checked (leb (length fs) 16384) 11 _ a.1 in
    let d = bind_found (push_all ranks [] fs) single c.1 in
    let e : d.0 ≡ t ∷ [] = single_found d.0 t d.2 in
    let o = is_record (opened b) b a.0 in
    let s = rw e at (push_all_spelling ranks fs [] fs d.0 d.1 record { spells = refl; over = none }) in
    record {
      opens = o.0;
      even = o.1;
      nodes = leb-true (length fs) 16384 c.0;
      spells = rw (append-nil (postfix t ++ []), append-nil (postfix t)) at s.spells;
      over = all_first s.over;
    }

-- What is read is written as the bytes that it was read from.
pub encode_tree_judged : (ranks b : List ℕ) (t : Tree) → Bytes b → judge_tree ranks b ≡ found t → encode_tree t ≡ b
unfolding encode_tree
encode_tree_judged ranks b t h e =
    let f = tree_found ranks b t e in
    let body : fields (postfix t) ≡ body_of b = ap fields f.spells ∙ fields_numbers (body_of b) (bytes_body b f.opens h) f.even in
    let nothing_behind : encode_record 16 (body_of b) ++ drop (length b) b ≡ encode_record 16 (body_of b) =
    rw (drop-length b) (append-nil (encode_record 16 (body_of b))) in
    rw body (sym nothing_behind ∙ record_encoded b f.opens h)

-- The symbols of a tree over the symbols are below their number.
mutual
  unfolding Over postfix

  symbols_below : (ranks : List ℕ) (t : Tree) → Over ranks t → All (λ (f : ℕ). f < length ranks) (postfix t)
  symbols_below ranks (node f ts) o = all_append (all_symbols_below ranks ts o.2) (also o.0 none)

  all_symbols_below : (ranks : List ℕ) (ts : Trees) → AllOver ranks ts → All (λ (f : ℕ). f < length ranks) (postfixes ts)
  all_symbols_below ranks nil o = none
  all_symbols_below ranks (cons t ts) o = all_append (symbols_below ranks t o.0) (all_symbols_below ranks ts o.1)

-- A tree over the symbols, written: its nodes are counted, and then it is read.
module _ (ranks : List ℕ) (t : Tree) (few : length ranks ≤ 256) (o : Over ranks t) where
  judge_written : 2 * length (postfix t) + 2 < 4294967296
      → judge_tree ranks (encode_tree t) ≡ (check (leb (length (postfix t)) 16384) 11 >> (push_all ranks [] (postfix t) >>= single))
  unfolding judge_tree encode_tree is_tree_record check ◌>>◌
  judge_written n =
      let body = fields (postfix t) in
      let b = encode_record 16 body in
      let l : length body ≡ 2 * length (postfix t) = length_fields (postfix t) in
      let opens : opened b ≡ whole 16 (6 + length body) =
      rw append-nil at (record_opens 16 body [] (omega arith) (omega arith)) in
      let is_body : body_of b ≡ body = rw append-nil at (record_body 16 body [] (omega arith) (omega arith)) in
      let symbols : numbers body ≡ postfix t = numbers_fields (all_map (λ f h. omega arith) (symbols_below ranks t o)) in
      rw (
        opens,
        is_body,
        symbols,
        eq-eqb (6 + length body) (length b) (sym (length_record 16 body)),
        eq-eqb (length body % 2) 0 (omega arith),
      )

  nodes_few : length (postfix t) ≤ 16384 → Limited (peak t) (judge_tree ranks (encode_tree t)) (found t)
  unfolding check ◌>>◌ single
  nodes_few n =
      rw (judge_written (omega arith), le-leb (length (postfix t)) 16384 n) (limited_then single (tree_read ranks t o))

  nodes_many : 2 * length (postfix t) + 2 < 4294967296 → 16384 < length (postfix t) → judge_tree ranks (encode_tree t) ≡ refused 11
  unfolding check ◌>>◌
  nodes_many l n = rw (judge_written l, lt-leb (length (postfix t)) 16384 n)

  -- It is read back exactly if it keeps both limits; one that breaks a limit, and can be written, is refused.
  pub written_read : (judge_tree ranks (encode_tree t) ≡ found t) ↔ ((length (postfix t) ≤ 16384) × (peak t ≤ 1024))
  written_read = (
    λ e.
        let f = tree_found ranks (encode_tree t) t e in
        let n : length (postfix t) ≤ 16384 = rw f.spells f.nodes in (
          n,
          elim (dec_le (peak t) 1024) [
            | yes l ↦ l
            | no g ↦ absurd (refused≢found (sym ((nodes_few n).breaks (omega arith)) ∙ e))
          ],
        ),
    λ h. (nodes_few h.0).fits h.1,
  )

  pub written_refused : 2 * length (postfix t) + 2 < 4294967296 → ((length (postfix t) ≤ 16384) × (peak t ≤ 1024) → ⊥)
      → judge_tree ranks (encode_tree t) ≡ refused 11
  written_refused l not-both = elim (dec_le (length (postfix t)) 16384) [
    | yes n ↦ (nodes_few n).breaks (elim (dec_le (peak t) 1024) [ yes p ↦ absurd (not-both (n, p)) | no g ↦ omega arith ])
    | no g ↦ nodes_many l (omega arith)
  ]
