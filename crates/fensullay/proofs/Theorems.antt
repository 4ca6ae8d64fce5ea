-- What a caller of the C interface concludes from the number that it gets and from what the call left, over the definitions of specs/ alone.
use Prim.Native.Nat.{ℕ, ◌≤◌, ◌<◌}
use native.Mathlib.Decide.{dec_le, ℕ_discrete}
use native.Mathlib.Omega.{arith}
use mathlib.Core.Path.{◌≡◌, refl, sym, ◌∙◌}
use mathlib.Core.Logic.{◌⊎◌, inl, inr, ◌↔◌}
use mathlib.Core.Bool.{false}
use mathlib.Core.List.{List, [], ◌∷◌, ◌++◌}
use lib.ListN.{length, take, drop, get_or}
use Rattle.records.specs.Read.{Read, found, refused, map_read}
use Rattle.records.specs.Output.{written}
use Rattle.records.proofs.Causes.{causes}
use Rattle.automaton.specs.Automaton.{Automaton}
use Rattle.automaton.specs.Table.{judge}
use Rattle.automaton.specs.Decoded.{size_of, sized}
use Rattle.automaton.specs.declared.table.Size.{Size}
use Rattle.automaton.proofs.TableCauses.{table_causes}
use Rattle.automaton.proofs.Theorems.{writing_leaves}
use Rattle.trees.specs.Subtree.{Finding, accepted, rejected, is_accepted}
use Rattle.simulation.specs.Check.{acceptance, finding}
use Rattle.simulation.specs.Query.{relation_query, pair_query}
use Rattle.simulation.proofs.Causes.{acceptance_causes, relation_causes, pair_causes}
use Rattle.simulation.proofs.Theorems.{finding_acceptance, relation_leaves}
use Rattle.reduction.specs.Reduce.{reduction}
use Rattle.reduction.specs.Demand3.{Demand3}
use Rattle.reduction.specs.declared.reducing.Reduction.{Reduction}
use Rattle.reduction.proofs.Answers.{reduction_causes}
use Rattle.reduction.proofs.Theorems.{reduction_leaves, demand_3}
use Rattle.reporting.specs.Report.{report}
use Rattle.reporting.proofs.Reporting as reports
use Rattle.fensullay.specs.Exports.{ended, exported, done, judging, subtree_after, checking, relating, compare_code, ComparesInto, reduction_numbers}
use Rattle.fensullay.specs.Exports.{reducing, reporting}
use Rattle.fensullay.specs.Means.{UpTo, UpToOr, WorkMeans, YesNoMeans, NamesSubtree}
use Rattle.fensullay.proofs.Checking.{rejected_found, check_roomy, check_few, check_subtree}
use Rattle.fensullay.proofs.Exported.{found_with, output_aside, leaves}
use Rattle.fensullay.proofs.ReturnCodes.{up_to_or, work_means, yes_no_means}

judged_code : (x : Read Automaton) (numbers_of : Size → List ℕ) (numbers : List ℕ)
    → (exported 3 done numbers_of (sized x) numbers [] []).code ≡ (exported 3 done (λ (A : Automaton). numbers_of (size_of A)) x numbers [] []).code
unfolding exported ended done sized map_read
judged_code (found A) numbers_of numbers = refl
judged_code (refused cause) numbers_of numbers = refl

-- What each number means, the fields of the record in specs/Means.antt, and the causes. Judging refuses by 1 to 7.
pub judge_means : (table numbers : List ℕ) → WorkMeans (UpTo 7) 3 numbers (judge table) (judging table numbers).code
unfolding judging
judge_means table numbers = rw judged_code (work_means (λ cause p. omega arith) _ _ _ _ [] [] (table_causes table))

-- A check refuses by 1 to 11. It has two arrays: 100 says that one of them is too short.
pub check_means : (counts table tree numbers : List ℕ) → 2 ≤ length numbers
    → YesNoMeans (UpTo 11) 3 counts (acceptance table tree) (checking counts table tree numbers).code
check_means counts table tree numbers h =
    rw (check_roomy counts table tree numbers h) (yes_no_means (λ cause p. omega arith) _ _ _ _ _ _ (acceptance_causes table tree))

pub check_short : (counts table tree numbers : List ℕ)
    → ((checking counts table tree numbers).code ≡ 100) ↔ ((length counts < 3) ⊎ (length numbers < 2))
check_short counts table tree numbers = (
  λ h. elim (dec_le 2 (length numbers)) [
    | yes l ↦ inl ((check_means counts table tree numbers l).short.0 h)
    | no g ↦ inr (omega arith)
  ],
  λ h. sym (check_few counts table tree numbers h).0,
)

-- A relation query refuses by 1 to 7, or 13.
pub relate_means : (table out numbers : List ℕ) → WorkMeans (UpToOr 7 13) 2 numbers (relation_query table out) (relating table out numbers).code
unfolding relating
relate_means table out numbers = work_means (up_to_or 7 13 (omega arith) (omega arith)) _ _ _ _ _ _ (relation_causes table out)

-- A pair query refuses by 1 to 7, or 12.
pub compare_means : (table : List ℕ) (q r : ℕ) (numbers : List ℕ)
    → YesNoMeans (UpToOr 7 12) 1 numbers (pair_query table q r) (compare_code table q r numbers)
unfolding compare_code
compare_means table q r numbers = yes_no_means (up_to_or 7 12 (omega arith) (omega arith)) _ _ _ _ _ _ (pair_causes table q r)

-- Reducing refuses by 1 to 7, or 13.
pub reduce_means : (table out numbers : List ℕ) → WorkMeans (UpToOr 7 13) 6 numbers (reduction table out) (reducing table out numbers).code
unfolding reducing
reduce_means table out numbers = work_means (up_to_or 7 13 (omega arith) (omega arith)) _ _ _ _ _ _ (reduction_causes table out)

-- The report refuses by 13 alone: a refused table is reported.
pub report_means : (input out numbers : List ℕ)
    → WorkMeans (λ (cause : ℕ). cause ≡ 13) 1 numbers (written (report input) out) (reporting input out numbers).code
unfolding reporting written
report_means input out numbers = work_means (λ cause p. omega arith) _ _ _ _ _ _ (search causes)

-- Where judging does not return 0, the numbers are what they were.
pub judge_leaves : (table numbers : List ℕ) → ((judging table numbers).code ≡ 0 → ⊥) → (judging table numbers).numbers ≡ numbers
unfolding judging
judge_leaves table numbers h = (leaves _ _ _ _ [] [] (λ cause e. refl) h).0

-- A check adds its refusals to the counts: where it returns 100 these are what they were, and the array for the subtree too. That array is what it
-- was wherever the check does not return 101; then it begins with the subtree's numbers.
module _ (counts table tree numbers : List ℕ) where
  pub check_leaves : (checking counts table tree numbers).code ≡ 100
      → ((checking counts table tree numbers).numbers ≡ counts) × ((checking counts table tree numbers).out ≡ numbers)
  check_leaves h =
      let e = check_few counts table tree numbers ((check_short counts table tree numbers).0 h) in (sym e.1.0, sym e.1.1)

  room : ((checking counts table tree numbers).code ≡ 100 → ⊥) → (3 ≤ length counts) × (2 ≤ length numbers)
  room other = (
    elim (dec_le 3 (length counts)) [ yes l ↦ l | no g ↦ absurd (other ((check_short counts table tree numbers).1 (inl (omega arith)))) ],
    elim (dec_le 2 (length numbers)) [ yes l ↦ l | no g ↦ absurd (other ((check_short counts table tree numbers).1 (inr (omega arith)))) ],
  )

  pub check_names : (checking counts table tree numbers).code ≡ 101
      → (r : NamesSubtree table tree) × ((checking counts table tree numbers).out ≡ r.node ∷ r.size ∷ drop 2 numbers)
  unfolding subtree_after
  check_names h =
      let (l, m) = room (λ e. omega arith) in
      let r = rejected_found table tree ((check_means counts table tree numbers m).no.0 h).1 in
      (r, check_subtree counts table tree numbers l m ∙ rw r.is_found)

  pub check_keeps : ((checking counts table tree numbers).code ≡ 101 → ⊥) → (checking counts table tree numbers).out ≡ numbers
  unfolding subtree_after map_read is_accepted
  check_keeps other = elim (ℕ_discrete (checking counts table tree numbers).code 100) [
    | yes e ↦ (check_leaves e).1
    | no short ↦
        let (l, m) = room short in
        check_subtree counts table tree numbers l m ∙ go (finding table tree) refl (λ rejects. other ((check_means counts table tree numbers m).no.1 (l, rejects)))
  ]
    where
      go : (x : Read Finding) → finding table tree ≡ x → (acceptance table tree ≡ found false → ⊥) → subtree_after x numbers ≡ numbers
      go (found accepted) e other = refl
      go (found (rejected i size)) e other = absurd (other (sym (finding_acceptance table tree) ∙ rw e))
      go (refused cause) e other = refl

-- A pair query that does not return 101 leaves the numbers: `ComparesInto` is its promise.
pub compare_leaves : (table : List ℕ) (q r : ℕ) (numbers : List ℕ) (code : ℕ) (numbers' : List ℕ)
    → ComparesInto table q r numbers code numbers' → (code ≡ 101 → ⊥) → numbers' ≡ numbers
compare_leaves table q r numbers code numbers' c = c.otherwise

-- Where a relation query, reducing or the report does not return 0, the numbers and the output are what they were.
pub relate_leaves : (table out numbers : List ℕ) → ((relating table out numbers).code ≡ 0 → ⊥)
    → ((relating table out numbers).numbers ≡ numbers) × ((relating table out numbers).out ≡ out)
unfolding relating
relate_leaves table out numbers = leaves _ _ _ _ _ _ (relation_leaves table out)

pub reduce_leaves : (table out numbers : List ℕ) → ((reducing table out numbers).code ≡ 0 → ⊥)
    → ((reducing table out numbers).numbers ≡ numbers) × ((reducing table out numbers).out ≡ out)
unfolding reducing
reduce_leaves table out numbers = leaves _ _ _ _ _ _ (reduction_leaves table out)

pub report_leaves : (input out numbers : List ℕ) → ((reporting input out numbers).code ≡ 0 → ⊥)
    → ((reporting input out numbers).numbers ≡ numbers) × ((reporting input out numbers).out ≡ out)
unfolding reporting
report_leaves input out numbers = leaves _ _ _ _ _ _ (writing_leaves (report input) out)

-- A report has at most 64 bytes.
pub report_short : (input : List ℕ) → length (report input) ≤ 64
report_short = reports.report_short

-- A call of reducing that returned 0: its numbers and its bytes meet demand 3.
pub reduced_demand_3 : (table out numbers out' numbers' : List ℕ) → ((i : ℕ) → get_or table i 0 < 256)
    → (reducing table out numbers).code ≡ 0 → numbers' ≡ (reducing table out numbers).numbers → out' ≡ (reducing table out numbers).out
    → (r : Reduction) × (numbers' ≡ reduction_numbers r ++ drop 6 numbers) × Demand3 table out r (take r.length out')
unfolding reducing ended
reduced_demand_3 table out numbers out' numbers' bytes code after over =
    let (enough, finding) = (reduce_means table out numbers).done.0 code in
    let (r, e) = finding in
    let is = found_with done reduction_numbers _ numbers out _ enough (sym e) refl refl in
    (r, after ∙ sym is.1.0, rw (over ∙ sym is.1.1) (demand_3 table out r bytes e))

-- Under demand 3 a check against either table returns the same number and leaves the same counts. The subtrees may differ.
pub same_check_code : (table out : List ℕ) (r : Reduction) (bytes : List ℕ) → Demand3 table out r bytes → (counts tree numbers : List ℕ)
    → ((checking counts table tree numbers).code ≡ (checking counts bytes tree numbers).code)
    × ((checking counts table tree numbers).numbers ≡ (checking counts bytes tree numbers).numbers)
same_check_code table out r bytes d counts tree numbers = elim (dec_le 2 (length numbers)) [
  | yes l ↦ rw (check_roomy counts table tree numbers l, check_roomy counts bytes tree numbers l, d.same_answer tree)
      (output_aside 3 _ _ _ counts _ _ _ _)
  | no g ↦
      let short : (length counts < 3) ⊎ (length numbers < 2) = inr (omega arith) in
      let a = check_few counts table tree numbers short in
      let b = check_few counts bytes tree numbers short in
      (sym a.0 ∙ b.0, sym a.1.0 ∙ b.1.0)
]
