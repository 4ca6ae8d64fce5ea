-- `fensullay::states::fensullay_compare` meets its contract: from what the pair query promises of each of its answers.
use Rattle.std.proofs.Common.{◌≡◌, ◌≤◌, ◌∙◌, List, [], ◌∷◌, ℕ, length, drop, refl, sym, ap, arith}
use Rattle.std.proofs.lemmas.Bool.Decides.{nat_tests}
use Rattle.std.specs.Prelude.{Result, Ok, Err, Option, Some, None}
use Rattle.records.specs.Refusal.{number_of}
use Rattle.records.specs.Answers.{reading_of}
use Rattle.records.specs.Read.{map_read}
use Rattle.records.specs.declared.refusal.Refusal.{Refusal}
use Rattle.records.proofs.Reading.{bind_found}
use Rattle.automaton.specs.Table.{judge}
use Rattle.simulation.specs.Query.{pair_query, comparison_of, compared_by, is_yes, Compares}
use Rattle.reporting.proofs.Reporting.{refusal_few}
use Rattle.fensullay.specs.Exports.{yes_no, compare_code, ComparesInto}
use Rattle.fensullay.proofs.Exported.{too_few, found_with}
use Rattle.fensullay.proofs.states.fensullay_compare.Goals as goal

-- Where no rule is named, the numbers stay.
names_none : {table : List ℕ} {q r : ℕ} {numbers : List ℕ} (code : ℕ) → code ≡ compare_code table q r numbers → code ≤ 100
    → ComparesInto table q r numbers code numbers
names_none code e h =
    record { answer = e; no = λ (is : code ≡ 101). absurd (omega arith); otherwise = λ (other : code ≡ 101 → ⊥). refl }

module _ (table : List ℕ) (q r : ℕ) (numbers : List ℕ) (room : 1 ≤ length numbers) (a : Result (Option ℕ) Refusal) (c : Compares table q r a) where
  verdict_of : (b : Result (Option ℕ) Refusal) → a ≡ b → map_read is_yes (comparison_of b) ≡ pair_query table q r
  verdict_of b is = ap (λ (x : Result (Option ℕ) Refusal). map_read is_yes (comparison_of x)) (sym is) ∙ c.verdict

  code_of : (b : Result (Option ℕ) Refusal) → a ≡ b → yes_no (map_read is_yes (comparison_of b)) ≡ compare_code table q r numbers
  unfolding compare_code
  code_of b is = ap yes_no (verdict_of b is) ∙ (found_with yes_no _ _ numbers [] [] room refl refl refl).0

  answered_refused : (code : ℕ) (cause : Refusal) → a ≡ Err cause → code ≡ number_of cause → ComparesInto table q r numbers code numbers
  unfolding yes_no map_read comparison_of reading_of
  answered_refused code cause is e = rw e (names_none (number_of cause) (code_of _ is) (omega (arith, refusal_few cause)))

  answered_yes : a ≡ Ok None → ComparesInto table q r numbers 0 numbers
  unfolding yes_no map_read comparison_of compared_by reading_of is_yes
  answered_yes is = names_none 0 (code_of _ is) (omega arith)

  answered_rule : (rule : ℕ) (after : List ℕ) → a ≡ Ok (Some rule) → after ≡ rule ∷ drop 1 numbers → ComparesInto table q r numbers 101 after
  unfolding yes_no pair_query comparison_of compared_by reading_of map_read is_yes
  answered_rule rule after is put =
      let (A, judged, _) = bind_found (judge table) _ (sym (verdict_of _ is)) in
      record {
        answer = code_of _ is;
        no = λ (_ : ◌≡◌ {A = ℕ} 101 101). (A, rule, judged, c.unmatched A judged rule (ap comparison_of is), put);
        otherwise = λ (other : ◌≡◌ {A = ℕ} 101 101 → ⊥). absurd (other refl);
      }

pub returns-then-is_empty : goal.returns-then-is_empty
unfolding compare_code
returns-then-is_empty c = names_none 100 (too_few _ _ _ _ [] _ (grind (arith, nat_tests))).0 (omega arith)

pub returns-in-Ok-None : goal.returns-in-Ok-None
returns-in-Ok-None c = answered_yes _ _ _ _ (grind (arith, nat_tests)) _ c.compare.ensures (rw c.in-Ok-None.field-0-is at c.in-Ok-None.is)

pub returns-in-Ok-Some : goal.returns-in-Ok-Some
returns-in-Ok-Some c =
    answered_rule _ _ _ _ (grind (arith, nat_tests)) _ c.compare.ensures _ _ (rw c.in-Ok-Some.field-0-is at c.in-Ok-Some.is) c.put_all.ensures

pub returns-in-Err : goal.returns-in-Err
returns-in-Err c = answered_refused _ _ _ _ (grind (arith, nat_tests)) _ c.compare.ensures c.from.result _ c.in-Err.is c.from.ensures
