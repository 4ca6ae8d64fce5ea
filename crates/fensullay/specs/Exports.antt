-- What the exported functions return and what they leave in the lent arrays, from what stands in the arrays before the call.
use Rattle.std.specs.Prelude.{ℕ, ◌≡◌, Result, Bool, true, false, cond, List, [], ◌∷◌, ◌++◌, length, drop, get_or, leb}
use Rattle.records.specs.Answers.{reading_of}
use Rattle.records.specs.Read.{Read, found, refused}
use Rattle.records.specs.Output.{written, written_over}
use Rattle.records.specs.declared.refusal.Refusal.{Refusal}
use Rattle.automaton.specs.Automaton.{Automaton}
use Rattle.automaton.specs.Table.{judge}
use Rattle.automaton.specs.Decoded.{sized}
use Rattle.automaton.specs.declared.table.Size.{Size}
use Rattle.trees.specs.Subtree.{Finding, accepted, rejected}
use Rattle.simulation.specs.Check.{acceptance, finding, counted}
use Rattle.simulation.specs.declared.query.Related.{Related}
use Rattle.simulation.specs.Query.{relation_query, relation_after, pair_query, Unmatched}
use Rattle.simulation.specs.declared.checking.Counts.{Counts}
use Rattle.reduction.specs.Reduce.{reduction, reduction_after}
use Rattle.reduction.specs.declared.reducing.Reduction.{Reduction}
use Rattle.reporting.specs.Report.{report}

-- The number that a call returns; the array for numbers and the output afterwards, which is empty for a call that has none. Of a check they are the
-- counts and the array for the subtree.
pub record Exported : Type 0 where
  pub code : ℕ
  pub numbers : List ℕ
  pub out : List ℕ

-- The end of a call that has room for its numbers, from what it read. What was found has a code, and numbers at the start of the array, in which
-- what stands after them stays. The code of a refusal is document 01's number; a refusal leaves the array.
unfoldable pub ended : {A : Type 0} → (A → ℕ) → (A → List ℕ) → Read A → List ℕ → List ℕ → Exported
ended code_of numbers_of (found a) numbers after =
    record { code = code_of a; numbers = numbers_of a ++ drop (length (numbers_of a)) numbers; out = after }
ended code_of numbers_of (refused cause) numbers after = record { code = cause; numbers = numbers; out = after }

-- A call: how many numbers it needs, the code and the numbers of what it finds, what it reads, the lent numbers, the output before and
-- afterwards. An array for numbers that is too short is the first thing found: 100, and what was lent stays.
unfoldable pub exported : {A : Type 0} → ℕ → (A → ℕ) → (A → List ℕ) → Read A → List ℕ → List ℕ → List ℕ → Exported
exported need code_of numbers_of x numbers out after =
    cond (leb need (length numbers)) (ended code_of numbers_of x numbers after) (record { code = 100; numbers = numbers; out = out })

-- The code where a call did its work.
unfoldable pub done : {A : Type 0} → A → ℕ
done a = 0

-- The end of a call whose work gives the numbers themselves, or a refusal.
unfoldable pub answered : Result (List ℕ) Refusal → List ℕ → Exported
answered r numbers = ended done (λ (values : List ℕ). values) (reading_of r) numbers []

-- The code of the answer to a question, which may be a refusal: 0 for yes, 101 for no.
unfoldable pub yes_no : Read Bool → ℕ
yes_no (found true) = 0
yes_no (found false) = 101
yes_no (refused cause) = cause

-- Judging: states, symbols, rules.
abbrev pub size_numbers : Size → List ℕ
size_numbers s = s.states ∷ s.symbols ∷ s.rules ∷ []

unfoldable pub judging : List ℕ → List ℕ → Exported
judging table numbers = exported 3 done size_numbers (sized (judge table)) numbers [] []

-- Checking: the counts accepted, not accepted, refused, as they are lent and afterwards; a refusal is counted too. `exported` has seen that
-- there are three.
unfoldable pub counts_in : List ℕ → Counts
counts_in counts = record { accepted = get_or counts 0 0; rejected = get_or counts 1 0; refused = get_or counts 2 0 }

abbrev pub counts_numbers : Counts → List ℕ
counts_numbers c = c.accepted ∷ c.rejected ∷ c.refused ∷ []

-- The array for the subtree that is named, afterwards: of a tree that is not accepted its top node and how many nodes it has.
unfoldable pub subtree_after : Read Finding → List ℕ → List ℕ
subtree_after (found accepted) numbers = numbers
subtree_after (found (rejected i size)) numbers = i ∷ size ∷ drop 2 numbers
subtree_after (refused cause) numbers = numbers

-- Both arrays have to be long enough before anything is counted. A refusal is one of the answers that are found, so that it is counted.
unfoldable pub checking : List ℕ → List ℕ → List ℕ → List ℕ → Exported
checking counts table tree numbers =
    cond (leb 2 (length numbers))
    (exported 3 yes_no (λ (answer : Read Bool). counts_numbers (counted (counts_in counts) answer)) (found (acceptance table tree)) counts numbers
    (subtree_after (finding table tree) numbers))
    (record { code = 100; numbers = counts; out = numbers })

-- The relation query: rounds, pairs; and the rows in `out`.
abbrev pub relation_numbers : Related → List ℕ
relation_numbers r = r.rounds ∷ r.pairs ∷ []

unfoldable pub relating : List ℕ → List ℕ → List ℕ → Exported
relating table out numbers = exported 2 done relation_numbers (relation_query table out) numbers out (relation_after (judge table) out)

-- The pair query: yes; or no, and the number of some rule of q that no rule of r matches.
unfoldable pub compare_code : List ℕ → ℕ → ℕ → List ℕ → ℕ
compare_code table q r numbers = (exported 1 yes_no (λ (answer : Read Bool). []) (found (pair_query table q r)) numbers [] []).code

pub record ComparesInto (table : List ℕ) (q r : ℕ) (numbers : List ℕ) (code : ℕ) (numbers' : List ℕ) : Type 0 where
  pub answer : code ≡ compare_code table q r numbers
  pub no : code ≡ 101
      → (A : Automaton) × (rule : ℕ) × (judge table ≡ found A) × Unmatched A q r rule × (numbers' ≡ rule ∷ drop 1 numbers)
  pub otherwise : (code ≡ 101 → ⊥) → numbers' ≡ numbers

-- Reducing: the length, the old and new states, the old and new rules, the rounds of step 2; and the reduced table in `out`.
abbrev pub reduction_numbers : Reduction → List ℕ
reduction_numbers r = r.length ∷ r.old.states ∷ r.new.states ∷ r.old.rules ∷ r.new.rules ∷ r.rounds ∷ []

unfoldable pub reducing : List ℕ → List ℕ → List ℕ → Exported
reducing table out numbers = exported 6 done reduction_numbers (reduction table out) numbers out (reduction_after (judge table) out)

-- The report: the length of its lines; and the lines in `out`, or 13 where that is shorter than they are.
unfoldable pub reporting : List ℕ → List ℕ → List ℕ → Exported
reporting input out numbers =
    exported 1 done (λ (size : ℕ). size ∷ []) (written (report input) out) numbers out (written_over (report input) out)
