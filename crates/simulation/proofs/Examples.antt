-- The order of the causes of trees and queries: each example has two causes at once, and the one that document 01 puts first is returned. And
-- that final states play no part in ≤.
use Prim.Native.Nat.{ℕ}
use mathlib.Core.Path.{◌≡◌, refl}
use mathlib.Core.List.{List, [], ◌∷◌, ◌++◌}
use lib.ListN.{replicate}
use mathlib.Core.Bool.{true}
use Rattle.lists.specs.Lists.{all, rising, from, keep, any}
use Rattle.records.specs.Bytes.{number2, number4, numbers, bytes2, bytes4, fields}
use Rattle.records.specs.Record.{end_of, is_whole, opened, body_of, encode_record}
use Rattle.records.specs.Read.{found, refused, ◌>>=◌, ◌>>◌, check}
use Rattle.automaton.specs.Table.{due, judge_record, size_in, judge_size, judge_ranks, judge_finals, rule_in, judge_rule, judge_rules}
use Rattle.automaton.specs.Table.{judge_from_finals, judge_from_ranks, judge}
use Rattle.trees.specs.Postfix.{trees_in, rank_on, push, push_all, single, is_tree_record, judge_tree}
use Rattle.refinement.specs.Simulation.{related, paired, matched_by, matched, survives, refine, all_pairs, relation_at, settle, rounds}
use Rattle.refinement.specs.Simulation.{relation}
use Rattle.simulation.specs.Check.{acceptance}
use Rattle.simulation.specs.Query.{simulation_of, relation_query, pair_query}

-- Symbols a, b and f of ranks 0, 0 and 2; symbol 3 is unknown.
abbrev pub ranks : List ℕ
ranks = 0 ∷ 0 ∷ 2 ∷ []

-- The record of a tree with these symbols in postfix order.
abbrev pub tree : List ℕ → List ℕ
tree symbols = encode_record 16 (fields symbols)

-- A table of one state, without symbols and rules, and one byte after it.
abbrev pub byte_after : List ℕ
byte_after =
    8 ∷ 0 ∷ 0 ∷ 0 ∷ 1 ∷ 0 ∷ 1 ∷ 0 ∷ 0 ∷ 0 ∷ 0 ∷ 0
    ∷ 2 ∷ 0 ∷ 0 ∷ 0 ∷ 2 ∷ 0
    ∷ 2 ∷ 0 ∷ 0 ∷ 0 ∷ 3 ∷ 0
    ∷ 0
    ∷ []

pub record Order : Type 0 where
  -- 8 before 9: an odd body, and its symbol is unknown.
  pub odd_body_before_symbol : judge_tree ranks (5 ∷ 0 ∷ 0 ∷ 0 ∷ 16 ∷ 0 ∷ 3 ∷ 0 ∷ 0 ∷ []) ≡ refused 8
  -- 8 before 11: an odd body, and 16,385 nodes in it.
  pub odd_body_before_node_limit : judge_tree ranks (encode_record 16 (replicate 32771 0)) ≡ refused 8
  -- 11 before 9: 16,385 nodes, and the first symbol is unknown.
  pub node_limit_before_symbol : judge_tree ranks (tree (3 ∷ replicate 16384 0)) ≡ refused 11
  -- Node by node, 9 before 10: an unknown symbol, and after it an f without two trees before it.
  pub symbol_before_later_rank : judge_tree ranks (tree (3 ∷ 2 ∷ [])) ≡ refused 9
  -- 10 before 9: an f without two trees before it, and after it an unknown symbol.
  pub rank_before_later_symbol : judge_tree ranks (tree (2 ∷ 3 ∷ [])) ≡ refused 10
  -- 11 before 9: 1,025 trees wait, and after them stands an unknown symbol.
  pub waiting_before_later_symbol : judge_tree ranks (tree (replicate 1025 0 ++ (3 ∷ []))) ≡ refused 11
  -- 9 before 11: an unknown symbol, and with the leaf after it 1,025 trees wait.
  pub symbol_before_later_waiting : judge_tree ranks (tree (replicate 1024 0 ++ (3 ∷ 0 ∷ []))) ≡ refused 9
  -- 9 before the 10 at the end: the last symbol is unknown, and two trees stand there.
  pub symbol_before_end : judge_tree ranks (tree (0 ∷ 0 ∷ 3 ∷ [])) ≡ refused 9
  -- The table's 1 before the tree's 8: a byte after the table, and no record of a tree.
  pub table_before_tree : acceptance byte_after [] ≡ refused 1
  -- The table's 1 before 12: a byte after the table, and state 1 where n is 1.
  pub table_before_states : pair_query byte_after 0 1 ≡ refused 1
  -- The table's 1 before 13: a byte after the table, and no room for a row.
  pub table_before_output : relation_query byte_after [] ≡ refused 1

pub order : Order
unfolding judge_tree is_tree_record push_all push rank_on single trees_in acceptance pair_query relation_query
    judge judge_from_ranks judge_from_finals judge_rules judge_record judge_size judge_ranks judge_finals size_in due opened is_whole end_of body_of number2 number4 numbers
    encode_record bytes2 bytes4 fields all rising check ◌>>=◌ ◌>>◌
order = record {
  odd_body_before_symbol = refl;
  odd_body_before_node_limit = refl;
  node_limit_before_symbol = refl;
  symbol_before_later_rank = refl;
  rank_before_later_symbol = refl;
  waiting_before_later_symbol = refl;
  symbol_before_later_waiting = refl;
  symbol_before_end = refl;
  table_before_tree = refl;
  table_before_states = refl;
  table_before_output = refl;
}

-- a → 0 and a → 1, and 0 alone is final: still 0 ≤ 1.
abbrev pub one_final : List ℕ
one_final =
    encode_record 1 (fields (2 ∷ 1 ∷ 2 ∷ []))
    ++ (encode_record 2 (0 ∷ [])
    ++ (encode_record 3 (fields (0 ∷ []))
    ++ (encode_record 4 (fields (0 ∷ 0 ∷ []))
    ++ encode_record 4 (fields (0 ∷ 1 ∷ [])))))

pub final_below_other : pair_query one_final 0 1 ≡ found true
unfolding pair_query simulation_of relation relation_at rounds settle all_pairs refine keep survives matched matched_by paired related any from
    judge judge_from_ranks judge_from_finals judge_rules judge_record judge_size judge_ranks judge_finals size_in judge_rule rule_in due opened is_whole end_of body_of number2 number4 numbers
    encode_record bytes2 bytes4 fields all rising check ◌>>=◌ ◌>>◌
final_below_other = refl
