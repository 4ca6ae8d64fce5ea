-- The relation query and the pair query.
use Rattle.std.specs.Prelude.{ℕ, zero, suc, ◌+◌, ◌*◌, ◌≡◌, Bool, true, false, cond, ◌&&◌, List, [], ◌∷◌, ◌++◌, map, length, drop, ltb}
use Rattle.lists.specs.Lists.{from}
use Rattle.std.specs.Prelude.{Result, Option, Some, None}
use Rattle.records.specs.Answers.{reading_of}
use Rattle.records.specs.declared.refusal.Refusal.{Refusal}
use Rattle.records.specs.Read.{Read, found, refused, ◌>>=◌, ◌>>◌, map_read, check}
use Rattle.records.specs.Output.{written, written_over}
use Rattle.automaton.specs.Automaton.{Rule, Automaton}
use Rattle.automaton.specs.Table.{judge}
use Rattle.refinement.specs.Simulation.{Relation, related, matched, relation, rounds}
use Rattle.simulation.specs.declared.query.Related.{Related}

-- The simulation preorder of an automaton: q ≤ r on all its states; and its rounds.
unfoldable pub simulation_of : Automaton → Relation
simulation_of A = relation A.rules (from 0 A.states)

unfoldable pub rounds_of : Automaton → ℕ
rounds_of A = rounds A.rules (from 0 A.states)

-- n bits from state r on, the lowest first.
unfoldable pub bits_from : Relation → ℕ → ℕ → ℕ → ℕ
bits_from R q r zero = 0
bits_from R q r (suc n) = cond (related R q r) 1 0 + 2 * bits_from R q (suc r) n

-- Row q, 32 bytes: bit r mod 8 of byte r div 8 is 1 if q ≤ r.
unfoldable pub row_bytes : Relation → ℕ → List ℕ
row_bytes R q = map (λ (i : ℕ). bits_from R q (8 * i) 8) (from 0 32)

unfoldable pub relation_rows : Relation → List ℕ → List ℕ
relation_rows R [] = []
relation_rows R (q ∷ qs) = row_bytes R q ++ relation_rows R qs

unfoldable pub relation_bytes : Automaton → List ℕ
relation_bytes A = relation_rows (simulation_of A) (from 0 A.states)

-- The relation query: rounds and the number of pairs, or the refusal; 13 where the output is shorter than the rows.
unfoldable pub relation_query : List ℕ → List ℕ → Read Related
relation_query table out = do
  A ← judge table
  written (relation_bytes A) out
  found (record { rounds = rounds_of A; pairs = length (simulation_of A) })

-- The output afterwards: a refusal, 13 too, leaves it.
unfoldable pub relation_after : Read Automaton → List ℕ → List ℕ
relation_after (found A) out = written_over (relation_bytes A) out
relation_after (refused cause) out = out

-- The pair query: yes, or no; 12 where a state number is not below n.
unfoldable pub pair_query : List ℕ → ℕ → ℕ → Read Bool
pair_query table q r = do
  A ← judge table
  check (ltb q A.states && ltb r A.states) 12
  found (related (simulation_of A) q r)

-- Rule i is a rule of q that no rule of r matches under ≤.
pub record Unmatched (A : Automaton) (q r i : ℕ) : Type 0 where
  pub rule : Rule
  pub behind : List Rule
  pub number : drop i A.rules ≡ rule ∷ behind
  pub target : rule.target ≡ q
  pub unmatched : matched A.rules (simulation_of A) r rule ≡ false

-- What the pair query returns: yes, or the number of a rule.
pub data Comparison : Type 0 where
  yes : Comparison
  rule : ℕ → Comparison

unfoldable pub compared_by : Option ℕ → Comparison
compared_by None = yes
compared_by (Some i) = rule i

unfoldable pub comparison_of : Result (Option ℕ) Refusal → Read Comparison
comparison_of r = map_read compared_by (reading_of r)

unfoldable pub is_yes : Comparison → Bool
is_yes yes = true
is_yes (rule i) = false

-- The answer is the pair query's, and of a rule's number it holds that the rule is unmatched.
pub record Compares (table : List ℕ) (q r : ℕ) (answer : Result (Option ℕ) Refusal) : Type 0 where
  pub verdict : map_read is_yes (comparison_of answer) ≡ pair_query table q r
  pub unmatched : (A : Automaton) → judge table ≡ found A → (i : ℕ) → comparison_of answer ≡ found (rule i) → Unmatched A q r i
