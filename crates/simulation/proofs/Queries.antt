-- The answers of the two queries, from the rows that hold the relation of a table and from the rule that has no match: for `relate`, `compare`
-- and the theorems on them.
use Prim.Native.Nat.{ℕ, ◌+◌, ◌*◌, ◌/◌, ◌%◌, ◌^◌, ◌≤◌, ◌<◌}
use mathlib.Core.Path.{◌≡◌, refl, sym, ap, subst, ◌∙◌}
use mathlib.Core.Logic.{◌⊎◌, inl, inr, ◌↔◌}
use mathlib.Core.List.{List}
use mathlib.Core.Bool.{Bool, true, false, not, ◌&&◌, false≢true}
use native.Mathlib.Omega.{arith}
use lib.ListN.{length, get_or, take, drop}
use lib.Dec.{eqb, ltb}
use borrow.Author.Tests.{eq-eqb, eqb-true, lt-ltb, le-ltb, not-false}
use Rattle.lists.specs.Lists.{Distinct, from}
use Rattle.lists.specs.Over.{over}
use Rattle.lists.proofs.Ranges.{length_from, from_distinct}
use Rattle.lists.proofs.Booleans.{and_true_in, and_false_left, and_false_right, or_false_out}
use Rattle.lists.proofs.Search.{all_in}
use Rattle.sets.specs.declared.set.StateSet.{StateSet}
use Rattle.sets.proofs.StateSets.{bit}
use Rattle.std.specs.Prelude.{Option, Ok, Err, Some, None}
use Rattle.records.specs.Answers.{reading_of}
use Rattle.records.specs.Refusal.{number_of}
use Rattle.records.specs.Read.{found, refused, ◌>>=◌, ◌>>◌, check, map_read}
use Rattle.records.specs.declared.refusal.Refusal.{Refusal}
use Rattle.records.specs.declared.refusal.Refusal.TheVariants.{UnknownState, ShortOutput}
use Rattle.records.proofs.Buffers.{room_enough, room_short}
use Rattle.automaton.specs.Automaton.{Rule, Automaton, WellFormed}
use Rattle.automaton.specs.Decoded.{size_of}
use Rattle.automaton.specs.Row.{rule_at}
use Rattle.automaton.specs.Table.{judge}
use Rattle.automaton.specs.declared.table.Size.{Size}
use Rattle.automaton.proofs.Rows.{rules_at, rules_each}
use Rattle.refinement.specs.Simulation.{Relation, related, relation, survives}
use Rattle.refinement.specs.Inner.{relation_in, answered}
use Rattle.refinement.proofs.Pairs.{pairs_in, survives_related, relation_length, relation_distinct}
use Rattle.simulation.specs.Query.{simulation_of, rounds_of, relation_bytes, relation_query, relation_after}
use Rattle.simulation.specs.Query.{compared_by, comparison_of, is_yes, rule, pair_query, Unmatched, Compares}
use Rattle.simulation.specs.Inner.{bytes_of, pairs_of, FirstUnmatched, ComparedBy}
use Rattle.simulation.proofs.RelationBytes.{bytes_rows, length_rows, rows_bit, pairs_rows}
use Rattle.simulation.proofs.Preorder.{below_member, preorder_states}

-- The states that a table counts.
pub states_of : (A : Automaton) (size : Size) → size ≡ size_of A → size.states ≡ A.states
unfolding size_of
states_of A size is = ap (λ (s : Size). s.states) is

-- The relation query.

pub query_refused : (b out : List ℕ) (cause : Refusal) → refused (number_of cause) ≡ judge b
    → (reading_of (Err cause) ≡ relation_query b out) × (out ≡ relation_after (judge b) out)
unfolding reading_of relation_query relation_after ◌>>=◌
query_refused b out cause e = rw (← e) (refl, refl)

pub relation_once : (A : Automaton) → Distinct (simulation_of A)
unfolding simulation_of
relation_once A = relation_distinct A.rules (from 0 A.states) (from_distinct 0 A.states)

module _ (A : Automaton) (w : WellFormed A) where
  pub length_bytes : length (relation_bytes A) ≡ 32 * A.states
  unfolding relation_bytes
  length_bytes = length_rows (simulation_of A) (from 0 A.states) ∙ rw length_from

  pub relation_bit : (q r : ℕ) → q < A.states → r < 256
      → (get_or (relation_bytes A) (32 * q + r / 8) 0 / 2 ^ (r % 8) % 2 ≡ 1) ↔ (related (simulation_of A) q r ≡ true)
  unfolding relation_bytes bit
  relation_bit q r h l =
      let e = rows_bit (simulation_of A) A.states q r h l in
      (λ one. sym e ∙ eq-eqb _ 1 one, λ t. eqb-true _ 1 (e ∙ t))

  -- The rows that hold the relation.
  module _ (rows : List StateSet) (long : A.states ≤ length rows) (is : relation_in rows ≡ simulation_of A) where
    bytes_are : bytes_of (take A.states rows) ≡ relation_bytes A
    unfolding relation_bytes
    bytes_are = bytes_rows rows A.states long w.states ∙ rw is

    pairs_are : pairs_of (take A.states rows) ≡ length (simulation_of A)
    pairs_are =
        pairs_rows rows A.states long w.states (λ q r h. rw is (go q r h (related (simulation_of A) q r) refl))
        ∙ ap (λ (R : Relation). pairs_in (related R) (from 0 A.states) (from 0 A.states)) is
        ∙ sym counted
      where
        go : (q r : ℕ) → A.states ≤ r → (t : Bool) → related (simulation_of A) q r ≡ t → t ≡ false
        go q r h true f = absurd (let low = preorder_states A w q r f in omega arith)
        go q r h false f = refl

        counted : length (simulation_of A) ≡ pairs_in (related (simulation_of A)) (from 0 A.states) (from 0 A.states)
        counted = unfold simulation_of in relation_length A.rules (from 0 A.states)

module _ (b out : List ℕ) (A : Automaton) (w : WellFormed A) (e : judge b ≡ found A) where
  pub query_short : length out < 32 * A.states
      → (reading_of (Err ShortOutput) ≡ relation_query b out) × (out ≡ relation_after (judge b) out)
  unfolding reading_of relation_query relation_after ◌>>=◌ ◌>>◌
  query_short h =
      let short = room_short (relation_bytes A) out (rw (length_bytes A w) h) in
      rw (e, short.0, short.1) (refl, refl)

  pub query_found : 32 * A.states ≤ length out
      → relation_query b out ≡ found (record { rounds = rounds_of A; pairs = length (simulation_of A) })
  unfolding relation_query ◌>>=◌ ◌>>◌
  query_found h = rw (e, (room_enough (relation_bytes A) out (rw (length_bytes A w) h)).0)

  pub query_written : (rows : List StateSet) (after : List ℕ) (count pairs : ℕ) → 32 * A.states ≤ length out
      → A.states ≤ length rows → relation_in rows ≡ simulation_of A → count ≡ rounds_of A
      → after ≡ over out 0 (bytes_of (take A.states rows)) → pairs ≡ pairs_of (take A.states rows)
      → (reading_of (Ok (record { rounds = count; pairs = pairs })) ≡ relation_query b out) × (after ≡ relation_after (judge b) out)
  unfolding reading_of relation_after
  query_written rows after count pairs h long f g o p =
      let enough = room_enough (relation_bytes A) out (rw (length_bytes A w) h) in (
        rw (query_found h, g, p, pairs_are A w rows long f),
        rw (e, enough.1, o, bytes_are A w rows long f),
      )

-- The pair query.

pub compares_refused : (b : List ℕ) (q r : ℕ) (cause : Refusal) → refused (number_of cause) ≡ judge b
    → Compares b q r (Err cause)
unfolding comparison_of compared_by reading_of is_yes map_read pair_query ◌>>=◌
compares_refused b q r cause e = record {
  verdict = rw (← e);
  unmatched = λ A f i g. absurd (let z : ◌≡◌ {A = ℕ} 0 1 = cc in omega arith);
}

-- The relation of rules on the states below n, and two of these states.
module _ (rules : List Rule) (n q r : ℕ) (hq : q < n) (hr : r < n) where
  abbrev largest : Relation
  largest = relation rules (from 0 n)

  -- Were every rule of q matched, the pair would be in the relation.
  all_answered : ((j : ℕ) → j < length rules → answered rules largest q r (rule_at rules j) ≡ true) → related largest q r ≡ true
  unfolding survives
  all_answered each =
      let survive : survives rules largest (q, r) ≡ true = all_in _ rules (rules_each _ rules each) in
      survives_related rules (from 0 n) q r (below_member n q hq) (below_member n r hr) survive

  -- So outside the relation there is a rule without a match.
  pub first_answers : (a : Option ℕ) → related largest q r ≡ false → FirstUnmatched rules largest q r a → ComparedBy rules largest q r a
  unfolding is_yes compared_by
  first_answers None out first = absurd (false≢true (sym out ∙ (unfold FirstUnmatched in all_answered first)))
  first_answers (Some i) out first = record {
    verdict = sym out;
    first = λ j e. subst (FirstUnmatched rules largest q r) e first;
  }

module _ (b : List ℕ) (q r : ℕ) (A : Automaton) (e : judge b ≡ found A) where
  outside : (A.states ≤ q) ⊎ (A.states ≤ r) → (ltb q A.states && ltb r A.states) ≡ false
  outside (inl h) = and_false_left (ltb r A.states) (le-ltb q A.states h)
  outside (inr h) = and_false_right (ltb q A.states) (le-ltb r A.states h)

  pub compares_outside : (A.states ≤ q) ⊎ (A.states ≤ r) → Compares b q r (Err UnknownState)
  unfolding comparison_of compared_by reading_of is_yes map_read pair_query ◌>>=◌ ◌>>◌ check
  compares_outside h = record {
    verdict = rw (e, outside h);
    unmatched = λ B f i g. absurd (let z : ◌≡◌ {A = ℕ} 0 1 = cc in omega arith);
  }

  module _ (hq : q < A.states) (hr : r < A.states) where
    inside : (ltb q A.states && ltb r A.states) ≡ true
    inside = and_true_in (lt-ltb q A.states hq) (lt-ltb r A.states hr)

    pub pair_found : pair_query b q r ≡ found (related (simulation_of A) q r)
    unfolding pair_query ◌>>=◌ ◌>>◌ check
    pair_found = rw (e, inside)

    unmatched_rule : (i : ℕ) → FirstUnmatched A.rules (simulation_of A) q r (Some i) → Unmatched A q r i
    unfolding FirstUnmatched
    unmatched_rule i first =
        let s = or_false_out (not (eqb (rule_at A.rules i).target q)) _ first.1.0 in
        record {
          rule = rule_at A.rules i;
          behind = drop (i + 1) A.rules;
          number = rules_at A.rules i first.0;
          target = eqb-true (rule_at A.rules i).target q (not-false _ s.0);
          unmatched = s.1;
        }

    pub compares_by : (a : Option ℕ) → ComparedBy A.rules (simulation_of A) q r a → Compares b q r (Ok a)
    unfolding comparison_of compared_by reading_of is_yes map_read
    compares_by a c = record {
      verdict = ap found c.verdict ∙ sym pair_found;
      unmatched = λ B g i f.
          let same : A ≡ B = cc in
          rw (← same) (unmatched_rule i (c.first i (some_of a f)));
    }
      where
        some_of : (a : Option ℕ) {i : ℕ} → found (compared_by a) ≡ found (rule i) → a ≡ Some i
        some_of None f = absurd (let z : ◌≡◌ {A = ℕ} 0 1 = cc in omega arith)
        some_of (Some j) f = cc
