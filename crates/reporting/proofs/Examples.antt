-- Document 01's examples B1 to B12, from bytes and in the words of the contracts, as one joint statement; and examples of the subtree that a check
-- names. Judging, the relation and the reduction of these tables are computed; what holds for every output and every answer follows by a law for each.
use Prim.Native.Nat.{ℕ, ◌≤◌, ◌<◌}
use mathlib.Core.Path.{◌≡◌, refl}
use mathlib.Core.Logic.{◌⊎◌, ◌↔◌}
use mathlib.Core.List.{List, [], ◌∷◌, ◌++◌}
use mathlib.Core.Bool.{true, false}
use lib.ListN.{length, drop}
use Rattle.lists.specs.Lists.{all, rising, from, keep, any, among}
use Rattle.records.specs.Read.{found, refused, ◌>>=◌, ◌>>◌, check}
use Rattle.records.specs.Bytes.{number2, number4, numbers, bytes2, bytes4, fields}
use Rattle.records.specs.Record.{end_of, is_whole, opened, body_of, encode_record}
use Rattle.records.specs.Output.{written_over}
use Rattle.records.proofs.Buffers.{room_enough, room_short}
use Rattle.automaton.specs.Automaton.{Automaton, renamed}
use Rattle.automaton.specs.Table.{due, judge_record, size_in, judge_size, judge_ranks, judge_finals, rule_in, judge_rule, judge_rules}
use Rattle.automaton.specs.Table.{judge_from_finals, judge_from_ranks, judge, encode_rule, encode_rules}
use Rattle.automaton.specs.Table.{encode}
use Rattle.automaton.specs.Decoded.{size_of}
use Rattle.automaton.proofs.Examples.{T}
use Rattle.trees.specs.Tree.{belongs, accepts}
use Rattle.trees.specs.Postfix.{trees_in, rank_on, push, push_all, single, is_tree_record, judge_tree, postfix}
use Rattle.refinement.specs.Simulation.{related, paired, matched_by, matched, survives, refine, all_pairs, relation_at, settle, rounds}
use Rattle.refinement.specs.Simulation.{relation}
use Rattle.trees.specs.Subtree.{subtrees, has_state, first_bad, accepted, rejected, pointed, finding_in}
use Rattle.simulation.specs.Check.{acceptance, finding}
use Rattle.simulation.specs.Query.{simulation_of, rounds_of, bits_from, row_bytes, relation_rows, relation_bytes, relation_query, pair_query, yes}
use Rattle.simulation.specs.Query.{rule, comparison_of, Compares}
use Rattle.std.specs.Prelude.{Result, Option}
use Rattle.records.specs.declared.refusal.Refusal.{Refusal}
use Rattle.simulation.proofs.Comparing.{unmatched_first, unmatched_numbers, NamesOne, compares_iff_yes, compares_iff_unmatched}
use Rattle.stages.specs.Steps.{found_in, closure, buildable, productive, names_only, trimmed, below, rounds_in, equivalent, first_of}
use Rattle.stages.specs.Steps.{representative, same_states, same_rule, firsts, quotient, dominated_by, dominated, pruned, needed, kept}
use Rattle.stages.specs.Steps.{restricted, position, numbered, shortened, reduce, reduction_rounds}
use Rattle.reduction.specs.Reduce.{reduction, reduction_after}
use Rattle.reduction.specs.declared.reducing.Reduction.{Reduction}
use Rattle.reduction.proofs.Answers.{answer_for, reduction_fits, after_fits}
use Rattle.reporting.specs.Report.{decimal_in, decimal, numbers_in, line, refused_word, reduced_word, states_word, rules_word, rounds_word}
use Rattle.reporting.specs.Report.{report_of, report}

-- T: a → 0, a → 1, a → 2, b → 2, f(0,2) → 3, f(1,2) → 3, f(2,2) → 3, f(4,0) → 4, final 3. A record to a line.
abbrev pub table_t : List ℕ
table_t =
    8 ∷ 0 ∷ 0 ∷ 0 ∷ 1 ∷ 0 ∷ 5 ∷ 0 ∷ 3 ∷ 0 ∷ 8 ∷ 0
    ∷ 5 ∷ 0 ∷ 0 ∷ 0 ∷ 2 ∷ 0 ∷ 0 ∷ 0 ∷ 2
    ∷ 4 ∷ 0 ∷ 0 ∷ 0 ∷ 3 ∷ 0 ∷ 3 ∷ 0
    ∷ 6 ∷ 0 ∷ 0 ∷ 0 ∷ 4 ∷ 0 ∷ 0 ∷ 0 ∷ 0 ∷ 0
    ∷ 6 ∷ 0 ∷ 0 ∷ 0 ∷ 4 ∷ 0 ∷ 0 ∷ 0 ∷ 1 ∷ 0
    ∷ 6 ∷ 0 ∷ 0 ∷ 0 ∷ 4 ∷ 0 ∷ 0 ∷ 0 ∷ 2 ∷ 0
    ∷ 6 ∷ 0 ∷ 0 ∷ 0 ∷ 4 ∷ 0 ∷ 1 ∷ 0 ∷ 2 ∷ 0
    ∷ 10 ∷ 0 ∷ 0 ∷ 0 ∷ 4 ∷ 0 ∷ 2 ∷ 0 ∷ 3 ∷ 0 ∷ 0 ∷ 0 ∷ 2 ∷ 0
    ∷ 10 ∷ 0 ∷ 0 ∷ 0 ∷ 4 ∷ 0 ∷ 2 ∷ 0 ∷ 3 ∷ 0 ∷ 1 ∷ 0 ∷ 2 ∷ 0
    ∷ 10 ∷ 0 ∷ 0 ∷ 0 ∷ 4 ∷ 0 ∷ 2 ∷ 0 ∷ 3 ∷ 0 ∷ 2 ∷ 0 ∷ 2 ∷ 0
    ∷ 10 ∷ 0 ∷ 0 ∷ 0 ∷ 4 ∷ 0 ∷ 2 ∷ 0 ∷ 4 ∷ 0 ∷ 4 ∷ 0 ∷ 0 ∷ 0
    ∷ []

-- T reduced: a → 0, b → 0, f(0,0) → 1, final 1.
abbrev pub short_t : List ℕ
short_t =
    8 ∷ 0 ∷ 0 ∷ 0 ∷ 1 ∷ 0 ∷ 2 ∷ 0 ∷ 3 ∷ 0 ∷ 3 ∷ 0
    ∷ 5 ∷ 0 ∷ 0 ∷ 0 ∷ 2 ∷ 0 ∷ 0 ∷ 0 ∷ 2
    ∷ 4 ∷ 0 ∷ 0 ∷ 0 ∷ 3 ∷ 0 ∷ 1 ∷ 0
    ∷ 6 ∷ 0 ∷ 0 ∷ 0 ∷ 4 ∷ 0 ∷ 0 ∷ 0 ∷ 0 ∷ 0
    ∷ 6 ∷ 0 ∷ 0 ∷ 0 ∷ 4 ∷ 0 ∷ 1 ∷ 0 ∷ 0 ∷ 0
    ∷ 10 ∷ 0 ∷ 0 ∷ 0 ∷ 4 ∷ 0 ∷ 2 ∷ 0 ∷ 1 ∷ 0 ∷ 0 ∷ 0 ∷ 0 ∷ 0
    ∷ []

-- No state, no symbol, no rule.
abbrev pub empty_table : List ℕ
empty_table =
    8 ∷ 0 ∷ 0 ∷ 0 ∷ 1 ∷ 0 ∷ 0 ∷ 0 ∷ 0 ∷ 0 ∷ 0 ∷ 0
    ∷ 2 ∷ 0 ∷ 0 ∷ 0 ∷ 2 ∷ 0
    ∷ 2 ∷ 0 ∷ 0 ∷ 0 ∷ 3 ∷ 0
    ∷ []

-- B12's table: c → 0, d → 1, f(0,1) → 2, f(0,0) → 3, f(1,1) → 3, four states and none final.
abbrev pub table_c : List ℕ
table_c =
    8 ∷ 0 ∷ 0 ∷ 0 ∷ 1 ∷ 0 ∷ 4 ∷ 0 ∷ 3 ∷ 0 ∷ 5 ∷ 0
    ∷ 5 ∷ 0 ∷ 0 ∷ 0 ∷ 2 ∷ 0 ∷ 0 ∷ 0 ∷ 2
    ∷ 2 ∷ 0 ∷ 0 ∷ 0 ∷ 3 ∷ 0
    ∷ 6 ∷ 0 ∷ 0 ∷ 0 ∷ 4 ∷ 0 ∷ 0 ∷ 0 ∷ 0 ∷ 0
    ∷ 6 ∷ 0 ∷ 0 ∷ 0 ∷ 4 ∷ 0 ∷ 1 ∷ 0 ∷ 1 ∷ 0
    ∷ 10 ∷ 0 ∷ 0 ∷ 0 ∷ 4 ∷ 0 ∷ 2 ∷ 0 ∷ 2 ∷ 0 ∷ 0 ∷ 0 ∷ 1 ∷ 0
    ∷ 10 ∷ 0 ∷ 0 ∷ 0 ∷ 4 ∷ 0 ∷ 2 ∷ 0 ∷ 3 ∷ 0 ∷ 0 ∷ 0 ∷ 0 ∷ 0
    ∷ 10 ∷ 0 ∷ 0 ∷ 0 ∷ 4 ∷ 0 ∷ 2 ∷ 0 ∷ 3 ∷ 0 ∷ 1 ∷ 0 ∷ 1 ∷ 0
    ∷ []

pub table_t_encoded : table_t ≡ encode T
unfolding encode encode_rules encode_rule encode_record fields bytes2 bytes4
table_t_encoded = refl

pub table_t_judged : judge table_t ≡ found T
unfolding judge judge_from_ranks judge_from_finals judge_rules judge_record judge_size judge_ranks judge_finals size_in judge_rule
    rule_in due opened is_whole end_of body_of number2 number4 numbers all rising ◌>>=◌ ◌>>◌ check
table_t_judged = refl

-- `reduced`, `states 5 2`, `rules 8 3` and `rounds 1`, a line each.
abbrev pub four_lines : List ℕ
four_lines =
    114 ∷ 101 ∷ 100 ∷ 117 ∷ 99 ∷ 101 ∷ 100 ∷ 10
    ∷ 115 ∷ 116 ∷ 97 ∷ 116 ∷ 101 ∷ 115 ∷ 32 ∷ 53 ∷ 32 ∷ 50 ∷ 10
    ∷ 114 ∷ 117 ∷ 108 ∷ 101 ∷ 115 ∷ 32 ∷ 56 ∷ 32 ∷ 51 ∷ 10
    ∷ 114 ∷ 111 ∷ 117 ∷ 110 ∷ 100 ∷ 115 ∷ 32 ∷ 49 ∷ 10
    ∷ []

-- A table reduces to some bytes, with this answer: every output with room for them has them in front afterwards, and every shorter one
-- is refused.
pub record ReducesTo (table bytes : List ℕ) (answer : Reduction) : Type 0 where
  pub answered : (out : List ℕ) → answer.length ≤ length out → reduction table out ≡ found answer
  pub after : (out : List ℕ) → answer.length ≤ length out → reduction_after (judge table) out ≡ bytes ++ drop answer.length out
  pub short : (out : List ℕ) → length out < answer.length → reduction table out ≡ refused 13

pub record Bench : Type 0 where
  -- T reduces to 63 bytes: two states, three rules, one round.
  pub B1 : ReducesTo table_t short_t
      (record { length = 63; old = record { states = 5; symbols = 3; rules = 8 }; new = record { states = 2; symbols = 3; rules = 3 }; rounds = 1 })
  -- T as handed in: two rounds, nine pairs. The rows of its five states take 160 bytes.
  pub B2 : (out : List ℕ) → 160 ≤ length out → relation_query table_t out ≡ found (record { rounds = 2; pairs = 9 })
  -- The pairs (2, 0), (0, 2) and (3, 4), and the answers that the promise allows for each.
  pub B3 : (pair_query table_t 2 0 ≡ found false) × ((a : Result (Option ℕ) Refusal) → Compares table_t 2 0 a ↔ (comparison_of a ≡ found (rule 3)))
  pub B4 : (pair_query table_t 0 2 ≡ found true) × ((a : Result (Option ℕ) Refusal) → Compares table_t 0 2 a ↔ (comparison_of a ≡ found yes))
  pub B5 : (pair_query table_t 3 4 ≡ found false)
      × ((a : Result (Option ℕ) Refusal) → Compares table_t 3 4 a
      ↔ ((comparison_of a ≡ found (rule 4)) ⊎ (comparison_of a ≡ found (rule 5)) ⊎ (comparison_of a ≡ found (rule 6))))
  -- f(b,a), a and f(f(a,a),a).
  pub B6 : acceptance table_t (8 ∷ 0 ∷ 0 ∷ 0 ∷ 16 ∷ 0 ∷ 1 ∷ 0 ∷ 0 ∷ 0 ∷ 2 ∷ 0 ∷ []) ≡ found true
  pub B7 : acceptance table_t (4 ∷ 0 ∷ 0 ∷ 0 ∷ 16 ∷ 0 ∷ 0 ∷ 0 ∷ []) ≡ found false
  pub B8 : acceptance table_t (12 ∷ 0 ∷ 0 ∷ 0 ∷ 16 ∷ 0 ∷ 0 ∷ 0 ∷ 0 ∷ 0 ∷ 2 ∷ 0 ∷ 0 ∷ 0 ∷ 2 ∷ 0 ∷ []) ≡ found false
  -- Symbol 2 alone, an empty body, symbol 3 alone.
  pub B9 : acceptance table_t (4 ∷ 0 ∷ 0 ∷ 0 ∷ 16 ∷ 0 ∷ 2 ∷ 0 ∷ []) ≡ refused 10
  pub B10 : (acceptance table_t (2 ∷ 0 ∷ 0 ∷ 0 ∷ 16 ∷ 0 ∷ []) ≡ refused 10)
      × (acceptance table_t (4 ∷ 0 ∷ 0 ∷ 0 ∷ 16 ∷ 0 ∷ 3 ∷ 0 ∷ []) ≡ refused 9)
  pub B11 : ReducesTo empty_table empty_table
      (record { length = 24; old = record { states = 0; symbols = 0; rules = 0 }; new = record { states = 0; symbols = 0; rules = 0 }; rounds = 0 })
  pub B12 : pair_query table_c 2 3 ≡ found false
  pub report_on_T : report table_t ≡ four_lines

module _ (table : List ℕ) (A : Automaton) (e : judge table ≡ found A) where
  reduces_to : ReducesTo table (encode (reduce A)) (answer_for A)
  unfolding answer_for reduction ◌>>=◌
  reduces_to = record {
    answered = λ out. reduction_fits table out A e;
    after = λ out. after_fits table out A e;
    short = λ out h. rw (e, (room_short (encode (reduce A)) out h).0);
  }

  relation_fits : (out : List ℕ) → length (relation_bytes A) ≤ length out
      → relation_query table out ≡ found (record { rounds = rounds_of A; pairs = length (simulation_of A) })
  unfolding relation_query ◌>>=◌ ◌>>◌
  relation_fits out h = rw (e, (room_enough (relation_bytes A) out h).0)

pub bench : Bench
unfolding reduce reduction_rounds shortened numbered position restricted kept needed pruned dominated dominated_by quotient firsts same_rule
    same_states renamed representative first_of equivalent rounds_in below trimmed names_only productive buildable closure found_in among answer_for size_of
    relation relation_at rounds settle all_pairs refine keep survives matched matched_by paired related any from
    encode encode_rules encode_rule encode_record bytes2 bytes4 fields
    simulation_of rounds_of relation_bytes relation_rows row_bytes bits_from unmatched_numbers unmatched_first NamesOne
    pair_query acceptance accepts belongs judge_tree is_tree_record push_all push rank_on single trees_in
    judge judge_from_ranks judge_from_finals judge_rules judge_record judge_size judge_ranks judge_finals size_in judge_rule rule_in due opened is_whole end_of body_of number2 number4 numbers
    all rising ◌>>=◌ ◌>>◌ check
    report_of report line numbers_in decimal decimal_in reduced_word states_word rules_word rounds_word
bench = record {
  B1 = reduces_to table_t T table_t_judged;
  B2 = relation_fits table_t T table_t_judged;
  B3 = (refl, λ a. compares_iff_unmatched table_t 2 0 a T table_t_judged refl);
  B4 = (refl, λ a. compares_iff_yes table_t 0 2 a refl);
  B5 = (refl, λ a. compares_iff_unmatched table_t 3 4 a T table_t_judged refl);
  B6 = refl;
  B7 = refl;
  B8 = refl;
  B9 = refl;
  B10 = (refl, refl);
  B11 = reduces_to empty_table _ refl;
  B12 = refl;
  report_on_T = refl;
}

-- No state, a symbol of rank 0 and no rule.
abbrev pub table_n : List ℕ
table_n =
    8 ∷ 0 ∷ 0 ∷ 0 ∷ 1 ∷ 0 ∷ 0 ∷ 0 ∷ 1 ∷ 0 ∷ 0 ∷ 0
    ∷ 3 ∷ 0 ∷ 0 ∷ 0 ∷ 2 ∷ 0 ∷ 0
    ∷ 2 ∷ 0 ∷ 0 ∷ 0 ∷ 3 ∷ 0
    ∷ []

-- a, b and g of ranks 0, 0 and 1: a → 0, b → 1, g(1) → 1, final 0. No tree with b or g is accepted.
abbrev pub table_g : List ℕ
table_g =
    8 ∷ 0 ∷ 0 ∷ 0 ∷ 1 ∷ 0 ∷ 2 ∷ 0 ∷ 3 ∷ 0 ∷ 3 ∷ 0
    ∷ 5 ∷ 0 ∷ 0 ∷ 0 ∷ 2 ∷ 0 ∷ 0 ∷ 0 ∷ 1
    ∷ 4 ∷ 0 ∷ 0 ∷ 0 ∷ 3 ∷ 0 ∷ 0 ∷ 0
    ∷ 6 ∷ 0 ∷ 0 ∷ 0 ∷ 4 ∷ 0 ∷ 0 ∷ 0 ∷ 0 ∷ 0
    ∷ 6 ∷ 0 ∷ 0 ∷ 0 ∷ 4 ∷ 0 ∷ 1 ∷ 0 ∷ 1 ∷ 0
    ∷ 8 ∷ 0 ∷ 0 ∷ 0 ∷ 4 ∷ 0 ∷ 2 ∷ 0 ∷ 1 ∷ 0 ∷ 1 ∷ 0
    ∷ []

-- The same reduced: a → 0, final 0.
abbrev pub short_g : List ℕ
short_g =
    8 ∷ 0 ∷ 0 ∷ 0 ∷ 1 ∷ 0 ∷ 1 ∷ 0 ∷ 3 ∷ 0 ∷ 1 ∷ 0
    ∷ 5 ∷ 0 ∷ 0 ∷ 0 ∷ 2 ∷ 0 ∷ 0 ∷ 0 ∷ 1
    ∷ 4 ∷ 0 ∷ 0 ∷ 0 ∷ 3 ∷ 0 ∷ 0 ∷ 0
    ∷ 6 ∷ 0 ∷ 0 ∷ 0 ∷ 4 ∷ 0 ∷ 0 ∷ 0 ∷ 0 ∷ 0
    ∷ []

-- The subtree that a check names, from bytes (document 02: the "piece"). Symbols in postfix order.
pub record NamedSubtrees : Type 0 where
  -- f(b,a) is accepted.
  pub accepted_none : finding table_t (8 ∷ 0 ∷ 0 ∷ 0 ∷ 16 ∷ 0 ∷ 1 ∷ 0 ∷ 0 ∷ 0 ∷ 2 ∷ 0 ∷ []) ≡ found accepted
  -- a: its node has states, and none is final. The whole tree.
  pub leaf : finding table_t (4 ∷ 0 ∷ 0 ∷ 0 ∷ 16 ∷ 0 ∷ 0 ∷ 0 ∷ []) ≡ found (rejected 0 1)
  -- f(f(a,a),a): the top is the first that belongs to no state.
  pub top : finding table_t (12 ∷ 0 ∷ 0 ∷ 0 ∷ 16 ∷ 0 ∷ 0 ∷ 0 ∷ 0 ∷ 0 ∷ 2 ∷ 0 ∷ 0 ∷ 0 ∷ 2 ∷ 0 ∷ []) ≡ found (rejected 4 5)
  -- f(f(f(a,a),a),b): the same subtree as the first child of another.
  pub inner : finding table_t (16 ∷ 0 ∷ 0 ∷ 0 ∷ 16 ∷ 0 ∷ 0 ∷ 0 ∷ 0 ∷ 0 ∷ 2 ∷ 0 ∷ 0 ∷ 0 ∷ 2 ∷ 0 ∷ 1 ∷ 0 ∷ 2 ∷ 0 ∷ [])
      ≡ found (rejected 4 5)
  -- f(a,f(a,f(a,a))): the second child of the top, which belongs to no state either.
  pub second_child : finding table_t (16 ∷ 0 ∷ 0 ∷ 0 ∷ 16 ∷ 0 ∷ 0 ∷ 0 ∷ 0 ∷ 0 ∷ 0 ∷ 0 ∷ 0 ∷ 0 ∷ 2 ∷ 0 ∷ 2 ∷ 0 ∷ 2 ∷ 0 ∷ [])
      ≡ found (rejected 5 5)
  -- f(f(a,a),f(a,a)): only the top belongs to no state.
  pub two_children : finding table_t (16 ∷ 0 ∷ 0 ∷ 0 ∷ 16 ∷ 0 ∷ 0 ∷ 0 ∷ 0 ∷ 0 ∷ 2 ∷ 0 ∷ 0 ∷ 0 ∷ 0 ∷ 0 ∷ 2 ∷ 0 ∷ 2 ∷ 0 ∷ [])
      ≡ found (rejected 6 7)
  -- Symbol 2 alone, and a byte after the table: refused, and no subtree.
  pub refused_none : finding table_t (4 ∷ 0 ∷ 0 ∷ 0 ∷ 16 ∷ 0 ∷ 2 ∷ 0 ∷ []) ≡ refused 10
  pub table_refused_none : finding (table_t ++ (0 ∷ [])) (4 ∷ 0 ∷ 0 ∷ 0 ∷ 16 ∷ 0 ∷ 0 ∷ 0 ∷ []) ≡ refused 1
  -- No states at all.
  pub no_states : finding table_n (4 ∷ 0 ∷ 0 ∷ 0 ∷ 16 ∷ 0 ∷ 0 ∷ 0 ∷ []) ≡ found (rejected 0 1)
  -- g(b): in the table each node has a state, so that the whole tree is named; the reduced table has no rule for b, so that b is.
  pub reduces : reduction_after (judge table_g) table_g ≡ short_g ++ drop 39 table_g
  pub before : finding table_g (6 ∷ 0 ∷ 0 ∷ 0 ∷ 16 ∷ 0 ∷ 1 ∷ 0 ∷ 2 ∷ 0 ∷ []) ≡ found (rejected 1 2)
  pub afterwards : finding short_g (6 ∷ 0 ∷ 0 ∷ 0 ∷ 16 ∷ 0 ∷ 1 ∷ 0 ∷ 2 ∷ 0 ∷ []) ≡ found (rejected 0 1)

pub named_subtrees : NamedSubtrees
unfolding reduce reduction_rounds shortened numbered position restricted kept needed pruned dominated dominated_by quotient firsts same_rule
    same_states renamed representative first_of equivalent rounds_in below trimmed names_only productive buildable closure found_in among
    relation relation_at rounds settle all_pairs refine keep survives matched matched_by paired related any from
    encode encode_rules encode_rule encode_record bytes2 bytes4 fields reduction_after written_over
    finding finding_in pointed first_bad has_state subtrees postfix accepts belongs judge_tree is_tree_record push_all push rank_on single trees_in
    judge judge_from_ranks judge_from_finals judge_rules judge_record judge_size judge_ranks judge_finals size_in judge_rule rule_in due opened is_whole end_of body_of number2 number4 numbers
    all rising ◌>>=◌ ◌>>◌ check
named_subtrees = record {
  accepted_none = refl;
  leaf = refl;
  top = refl;
  inner = refl;
  second_child = refl;
  two_children = refl;
  refused_none = refl;
  table_refused_none = refl;
  no_states = refl;
  reduces = refl;
  before = refl;
  afterwards = refl;
}

-- Zero bytes: `refused 2`.
pub report_on_nothing : report [] ≡ 114 ∷ 101 ∷ 102 ∷ 117 ∷ 115 ∷ 101 ∷ 100 ∷ 32 ∷ 50 ∷ 10 ∷ []
unfolding report report_of line numbers_in decimal decimal_in refused_word judge judge_record due opened ◌>>=◌
report_on_nothing = refl

-- The table's cause comes before 13: T with a byte after it, and no room at all.
pub table_before_output : reduction (table_t ++ (0 ∷ [])) [] ≡ refused 1
unfolding reduction judge judge_from_ranks judge_from_finals judge_rules judge_record judge_size judge_ranks judge_finals size_in judge_rule rule_in due opened is_whole end_of body_of
    number2 number4 numbers all rising ◌>>=◌ ◌>>◌ check
table_before_output = refl
