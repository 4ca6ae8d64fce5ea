-- The walk with document 01's bench table, computed: what is held after each node and the answer at the end; that what is held decides, also where no
-- tree leads to it; the refusals, and their order where two come together.
use Prim.Native.Nat.{ℕ, zero, suc, ◌^◌, ◌<◌}
use native.Mathlib.Omega.{arith}
use mathlib.Core.Path.{◌≡◌, refl}
use mathlib.Core.List.{List, [], ◌∷◌}
use lib.ListN.{length, get_or, replicate}
use Rattle.std.proofs.Common.{lit<}
use Rattle.std.specs.Prelude.{None}
use Rattle.lists.specs.Lists.{from, keep, any, among}
use Rattle.sets.specs.Set.{member}
use Rattle.sets.specs.Entries.{entry_at}
use Rattle.sets.specs.Inner.{states_in}
use Rattle.records.specs.Bytes.{number2, number4, numbers, bytes2, bytes4, fields}
use Rattle.records.specs.Record.{end_of, is_whole, opened, body_of, encode_record}
use Rattle.records.specs.Read.{found, refused, ◌>>=◌, ◌>>◌, check, map_read}
use Rattle.automaton.proofs.Examples.{T}
use Rattle.trees.specs.Postfix.{rank_on, single, is_tree_record}
use Rattle.trees.specs.Subtree.{First, nowhere, first_at, first_of, accepted, rejected, pointed}
use Rattle.trees.specs.Walk.{Waiting, Walk, start, have_in_order, leads_to, sizes_of, joined, is_none, noted, onto, advance, advance_all, closing}
use Rattle.trees.specs.Inner.{set_at, start_at, stack_by, walk_in, nodes_finding}
use Rattle.trees.specs.declared.entry.Entry.{Entry}
use Rattle.trees.specs.Holds.{walk_finding}

-- A waiting tree, and what is held.
abbrev tree : List ℕ → ℕ → Waiting
tree states size = record { states = states; size = size }

abbrev walk : List Waiting → ℕ → First → Walk
walk stack nodes first = record { stack = stack; nodes = nodes; first = first }

-- What the array has of a tree: the first word of its set, and its start.
pub word_fits : (word : ℕ) → word < 2 ^ 64 → (i : ℕ) → get_or (word ∷ 0 ∷ 0 ∷ 0 ∷ []) i 0 < 2 ^ 64
word_fits word low zero = low
word_fits word low (suc zero) = omega arith
word_fits word low (suc (suc zero)) = omega arith
word_fits word low (suc (suc (suc zero))) = omega arith
word_fits word low (suc (suc (suc (suc i)))) = omega arith

abbrev entry : (word start : ℕ) → word < 2 ^ 64 → start < 65536 → Entry
entry word start low few = record { states = record { words = word ∷ 0 ∷ 0 ∷ 0 ∷ []; four = refl; bits = word_fits word low }; start = start; few = few }

-- So many leaves b wait.
abbrev leaves : ℕ → Walk
leaves n = walk (replicate n (tree (2 ∷ []) 1)) n nowhere

abbrev height : Walk → ℕ
height w = length w.stack

pub record Walks : Type 0 where
  -- f(b,a) of B6, node by node: b belongs to 2, a to 0, 1 and 2, and f over them to 3, which is final.
  pub after_b : advance T start 1 ≡ found (walk (tree (2 ∷ []) 1 ∷ []) 1 nowhere)
  pub after_a : advance T (walk (tree (2 ∷ []) 1 ∷ []) 1 nowhere) 0 ≡ found (walk (tree (0 ∷ 1 ∷ 2 ∷ []) 1 ∷ tree (2 ∷ []) 1 ∷ []) 2 nowhere)
  pub after_f : advance T (walk (tree (0 ∷ 1 ∷ 2 ∷ []) 1 ∷ tree (2 ∷ []) 1 ∷ []) 2 nowhere) 2 ≡ found (walk (tree (3 ∷ []) 3 ∷ []) 3 nowhere)
  pub whole : advance_all T start (1 ∷ 0 ∷ 2 ∷ []) ≡ found (walk (tree (3 ∷ []) 3 ∷ []) 3 nowhere)
  pub final : closing T (walk (tree (3 ∷ []) 3 ∷ []) 3 nowhere) ≡ found accepted
  -- In an array, after b and a: sets in words, starts for sizes; what stands behind the second tree has no part in it.
  pub in_arrays : walk_in (entry 4 0 (lit< tt) (lit< tt) ∷ entry 7 1 (lit< tt) (lit< tt) ∷ entry 8 5 (lit< tt) (lit< tt) ∷ []) 2 2 None
      ≡ walk (tree (0 ∷ 1 ∷ 2 ∷ []) 1 ∷ tree (2 ∷ []) 1 ∷ []) 2 nowhere
  -- f(f(a,a),a) of B8 belongs to no state: it is noted, and stays noted when f and b follow.
  pub without_state : advance_all T start (0 ∷ 0 ∷ 2 ∷ 0 ∷ 2 ∷ []) ≡ found (walk (tree [] 5 ∷ []) 5 (first_at 4 5))
  pub first_stays : advance_all T start (0 ∷ 0 ∷ 2 ∷ 0 ∷ 2 ∷ 1 ∷ 2 ∷ []) ≡ found (walk (tree [] 7 ∷ []) 7 (first_at 4 5))
  pub named : closing T (walk (tree [] 7 ∷ []) 7 (first_at 4 5)) ≡ found (rejected 4 5)
  -- Children are taken from left to right: f(4,0) has a rule, f(0,4) has none. No tree belongs to 4.
  pub left_to_right : advance T (walk (tree (0 ∷ []) 7 ∷ tree (4 ∷ []) 9 ∷ tree (1 ∷ []) 2 ∷ []) 40 nowhere) 2
      ≡ found (walk (tree (4 ∷ []) 17 ∷ tree (1 ∷ []) 2 ∷ []) 41 nowhere)
  pub right_to_left : advance T (walk (tree (4 ∷ []) 9 ∷ tree (0 ∷ []) 7 ∷ tree (1 ∷ []) 2 ∷ []) 40 nowhere) 2
      ≡ found (walk (tree [] 17 ∷ tree (1 ∷ []) 2 ∷ []) 41 (first_at 40 17))
  -- What is held decides: a first node is held, and still the tree is accepted; and the whole tree is named by the number of nodes, whatever its own
  -- size says.
  pub accepted_all_the_same : closing T (walk (tree (3 ∷ []) 3 ∷ []) 9 (first_at 3 2)) ≡ found accepted
  pub whole_named : closing T (walk (tree (2 ∷ []) 1 ∷ []) 9 nowhere) ≡ found (rejected 8 9)
  -- 9, 10, and the 10 at the end, with no tree there and with two.
  pub unknown_symbol : advance T start 3 ≡ refused 9
  pub too_few : advance T start 2 ≡ refused 10
  pub none_at_the_end : closing T start ≡ refused 10
  pub two_at_the_end : closing T (leaves 2) ≡ refused 10
  -- 1,024 trees may wait and 1,025 may not: 11, but 9 before it; an f leaves 1,023.
  pub last_place : map_read height (advance T (leaves 1023) 0) ≡ found 1024
  pub no_place : advance T (leaves 1024) 0 ≡ refused 11
  pub symbol_before_place : advance T (leaves 1024) 3 ≡ refused 9
  pub places_again : map_read height (advance T (leaves 1024) 2) ≡ found 1023
  -- In bytes, before the first node: 8 before the node limit, and the node limit before a 9. Without nodes the end is 10.
  pub odd_before_nodes : walk_finding T (encode_record 16 (replicate 32771 0)) ≡ refused 8
  pub nodes_before_symbol : walk_finding T (encode_record 16 (fields (3 ∷ replicate 16384 0))) ≡ refused 11
  pub no_nodes : walk_finding T (encode_record 16 []) ≡ refused 10

pub walks : Walks
unfolding start advance advance_all closing nodes_finding walk_finding onto joined leads_to have_in_order sizes_of is_none noted first_of pointed rank_on single is_tree_record
    walk_in stack_by set_at start_at states_in entry_at member from keep any among opened is_whole end_of body_of number2 number4 numbers encode_record bytes2 bytes4 fields check map_read ◌>>=◌ ◌>>◌
walks = record {
  after_b = refl;
  after_a = refl;
  after_f = refl;
  whole = refl;
  final = refl;
  in_arrays = refl;
  without_state = refl;
  first_stays = refl;
  named = refl;
  left_to_right = refl;
  right_to_left = refl;
  accepted_all_the_same = refl;
  whole_named = refl;
  unknown_symbol = refl;
  too_few = refl;
  none_at_the_end = refl;
  two_at_the_end = refl;
  last_place = refl;
  no_place = refl;
  symbol_before_place = refl;
  places_again = refl;
  odd_before_nodes = refl;
  nodes_before_symbol = refl;
  no_nodes = refl;
}
