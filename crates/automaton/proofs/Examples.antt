-- Document 01's bench table, the shortest and the longest table; and the order of a table's causes: each example has two causes at once,
-- and the one that document 01 puts first is returned.
use Prim.Native.Nat.{ℕ}
use native.Mathlib.Omega.{arith}
use mathlib.Core.Path.{◌≡◌, refl}
use mathlib.Core.List.{List, [], ◌∷◌, ◌++◌}
use lib.ListN.{length, take, replicate}
use Rattle.lists.specs.Lists.{all, rising, from}
use Rattle.lists.proofs.Ranges.{replicate_all, from_low, from_rising}
use Rattle.records.specs.Read.{found, refused, ◌>>=◌, ◌>>◌, check}
use Rattle.records.specs.Bytes.{number2, number4, numbers, bytes2, bytes4, fields}
use Rattle.records.specs.Record.{end_of, is_whole, opened, body_of, encode_record}
use Rattle.automaton.specs.Automaton.{Rule, Automaton, WellFormedRule, WellFormed}
use Rattle.automaton.specs.Table.{due, judge_record, size_in, judge_size, judge_ranks, judge_finals, rule_in, judge_rule, judge_rules}
use Rattle.automaton.specs.Table.{judge_from_finals, judge_from_ranks, judge, encode_rule, encode_rules, encode}
use Rattle.automaton.proofs.Theorems.{judge_encoded}

abbrev pub rule : ℕ → ℕ → List ℕ → Rule
rule f q qs = record { symbol = f; target = q; children = qs }

-- a → 0, a → 1, a → 2, b → 2, f(0,2) → 3, f(1,2) → 3, f(2,2) → 3, f(4,0) → 4
abbrev pub T : Automaton
T = record {
  states = 5;
  ranks = 0 ∷ 0 ∷ 2 ∷ [];
  finals = 3 ∷ [];
  rules = rule 0 0 [] ∷ rule 0 1 [] ∷ rule 0 2 [] ∷ rule 1 2 []
      ∷ rule 2 3 (0 ∷ 2 ∷ []) ∷ rule 2 3 (1 ∷ 2 ∷ []) ∷ rule 2 3 (2 ∷ 2 ∷ []) ∷ rule 2 4 (4 ∷ 0 ∷ []) ∷ [];
}

pub T_encoded : (length (encode T) ≡ 125) × (take 12 (encode T) ≡ 8 ∷ 0 ∷ 0 ∷ 0 ∷ 1 ∷ 0 ∷ 5 ∷ 0 ∷ 3 ∷ 0 ∷ 8 ∷ 0 ∷ [])
unfolding encode encode_rules encode_rule encode_record fields bytes2 bytes4
T_encoded = (refl, refl)

-- The whole table, and the table without its last byte.
pub T_judged : (judge (encode T) ≡ found T) × (judge (take 124 (encode T)) ≡ refused 1)
unfolding encode encode_rules encode_rule encode_record fields bytes2 bytes4 judge judge_from_ranks judge_from_finals judge_rules judge_record
    judge_size judge_ranks judge_finals judge_rule size_in rule_in due opened is_whole end_of body_of number2 number4 numbers all rising ◌>>=◌ ◌>>◌ check
T_judged = (refl, refl)

pub shortest : Automaton
shortest = record { states = 0; ranks = []; finals = []; rules = [] }

pub shortest_length : length (encode shortest) ≡ 24
unfolding shortest encode encode_rules encode_record fields bytes2 bytes4
shortest_length = refl

pub shortest_judged : judge (encode shortest) ≡ found shortest
unfolding shortest encode encode_rules encode_record fields bytes2 bytes4 judge judge_from_ranks judge_from_finals judge_rules judge_record
    judge_size judge_ranks judge_finals size_in due opened is_whole end_of body_of number2 number4 numbers all rising ◌>>=◌ ◌>>◌ check
shortest_judged = refl

abbrev longest_rule_lem : Rule
longest_rule_lem = rule 255 255 (replicate 8 255)

pub longest : Automaton
longest = record { states = 256; ranks = replicate 256 8; finals = from 0 256; rules = replicate 1024 longest_rule_lem }

pub longest_length : length (encode longest) ≡ 27416
unfolding longest from encode encode_rules encode_rule encode_record fields bytes2 bytes4
longest_length = refl

longest_rule : WellFormedRule longest longest_rule_lem
unfolding longest
longest_rule = record { symbol = omega arith; arity = refl; target = omega arith; children = replicate_all 8 255 (omega arith) }

longest_well_formed : WellFormed longest
unfolding longest
longest_well_formed = record {
  states = omega arith;
  symbols = omega arith;
  ranks = replicate_all 256 8 (omega arith);
  finals = from_low 0 256 256 (omega arith);
  rising = from_rising 0 256;
  count = omega arith;
  rules = replicate_all 1024 longest_rule_lem longest_rule;
}

pub longest_judged : judge (encode longest) ≡ found longest
longest_judged = judge_encoded longest longest_well_formed

-- A table with n = 1, one symbol of rank 0, no final state, the number k of rules, and one rule with this body.
abbrev pub with_rule : ℕ → List ℕ → List ℕ
with_rule k body = encode_record 1 (fields (1 ∷ 1 ∷ k ∷ [])) ++ (encode_record 2 (0 ∷ []) ++ (encode_record 3 [] ++ encode_record 4 body))

pub record Order : Type 0 where
  -- 1 before 2: a record that is not whole, and of kind 2 where kind 1 is due.
  pub broken_before_kind : judge (9 ∷ 0 ∷ 0 ∷ 0 ∷ 2 ∷ 0 ∷ []) ≡ refused 1
  -- 2 before 3: kind 2 where kind 1 is due, and a body of 8 bytes.
  pub kind_before_length : judge (encode_record 2 (fields (0 ∷ 0 ∷ 0 ∷ 0 ∷ []))) ≡ refused 2
  -- 3 before 4 in the first record: a body of 8 bytes, and 257 states.
  pub length_before_counts : judge (encode_record 1 (fields (257 ∷ 0 ∷ 0 ∷ 0 ∷ []))) ≡ refused 3
  -- 3 before 4 in the second: two ranks for one symbol, and both are 9.
  pub length_before_ranks : judge (encode_record 1 (fields (1 ∷ 1 ∷ 0 ∷ [])) ++ encode_record 2 (9 ∷ 9 ∷ [])) ≡ refused 3
  -- Record by record, 4 before 3: rank 9, and after it an odd body of final states.
  pub ranks_before_later_length : judge
      (encode_record 1 (fields (1 ∷ 1 ∷ 0 ∷ [])) ++ (encode_record 2 (9 ∷ []) ++ encode_record 3 (0 ∷ []))) ≡ refused 4
  -- 5 before 6: final state 2 where n is 2, and state 1 after it.
  pub range_before_rising : judge
      (encode_record 1 (fields (2 ∷ 0 ∷ 0 ∷ [])) ++ (encode_record 2 [] ++ encode_record 3 (fields (2 ∷ 1 ∷ [])))) ≡ refused 5
  -- 2 before 7: a record of kind 5 where k is 0.
  pub kind_before_too_many : judge
      (encode_record 1 (fields (0 ∷ 0 ∷ 0 ∷ [])) ++ (encode_record 2 [] ++ (encode_record 3 [] ++ encode_record 5 []))) ≡ refused 2
  -- 7 before 3: a rule where k is 0, and its body has 2 bytes.
  pub too_many_before_length : judge (with_rule 0 (fields (0 ∷ []))) ≡ refused 7
  -- In a rule 3 before 5: a body of 2 bytes, and symbol 1 where m is 1.
  pub short_before_symbol : judge (with_rule 1 (fields (1 ∷ []))) ≡ refused 3
  -- 5 before 3: symbol 1 where m is 1, and a body of 5 bytes, which fits no rank.
  pub symbol_before_length : judge (with_rule 1 (1 ∷ 0 ∷ 0 ∷ 0 ∷ 0 ∷ [])) ≡ refused 5
  -- 3 before 5: a child for a symbol of rank 0, and target 1 where n is 1.
  pub length_before_states : judge (with_rule 1 (fields (0 ∷ 1 ∷ 0 ∷ []))) ≡ refused 3
  -- 5 before the 7 at the end: target 1 where n is 1, and one rule where k is 2.
  pub states_before_too_few : judge (with_rule 2 (fields (0 ∷ 1 ∷ []))) ≡ refused 5

pub order : Order
unfolding judge judge_from_ranks judge_from_finals judge_rules judge_record judge_size judge_ranks judge_finals judge_rule size_in rule_in due
    opened is_whole end_of body_of
    number2 number4 numbers encode_record fields bytes2 bytes4 all rising check ◌>>=◌ ◌>>◌
order = record {
  broken_before_kind = refl;
  kind_before_length = refl;
  length_before_counts = refl;
  length_before_ranks = refl;
  ranks_before_later_length = refl;
  range_before_rising = refl;
  kind_before_too_many = refl;
  too_many_before_length = refl;
  short_before_symbol = refl;
  symbol_before_length = refl;
  length_before_states = refl;
  states_before_too_few = refl;
}
