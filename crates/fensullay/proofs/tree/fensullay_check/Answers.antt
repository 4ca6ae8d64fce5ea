-- `fensullay::tree::fensullay_check` meets its contract.
use Rattle.std.proofs.Common.{◌≡◌, ◌≤◌, ◌∙◌, List, ◌++◌, ℕ, length, drop, arith, refl, sym, ap}
use mathlib.Core.Logic.{inl, inr, ⊎_elim}
use Rattle.std.specs.Prelude.{Result, Ok}
use Rattle.records.specs.Answers.{reading_of}
use Rattle.records.specs.Read.{Read, map_read}
use Rattle.records.specs.declared.refusal.Refusal.{Refusal}
use Rattle.trees.specs.Subtree.{Finding}
use Rattle.trees.specs.Answers.{is_acceptance, named_by, acceptance_of, finding_of}
use Rattle.trees.specs.declared.evaluation.Answer.{Answer}
use Rattle.trees.specs.declared.evaluation.Answer.TheVariants.{Rejected}
use Rattle.simulation.specs.Check.{Checks}
use Rattle.simulation.specs.declared.checking.Counts.{Counts}
use Rattle.simulation.specs.declared.checking.Checked.{Checked}
use Rattle.fensullay.specs.Exports.{yes_no, counts_in, counts_numbers, subtree_after, checking}
use Rattle.fensullay.proofs.Checking.{check_roomy, check_few}
use Rattle.fensullay.proofs.Exported.{Gives, found_with}
use Rattle.fensullay.proofs.tree.fensullay_check.Goals as goal

pub returns-then-counts-lt3 : goal.returns-then-counts-lt3
returns-then-counts-lt3 c =
    let e = check_few _ _ _ _ (⊎_elim inl (λ h. inr h.1) c.then-counts-lt3.either) in
    record { value = e.0; counts_after = e.1.0; numbers_after = e.1.1 }

-- After the counts are written, the number returned and the subtree are those of the check's answer.
answered : (counts table tree numbers : List ℕ) (r : Checked) → 3 ≤ length counts → 2 ≤ length numbers
    → Checks (counts_in counts) table tree r → {counts' : List ℕ} → counts' ≡ counts_numbers r.counts ++ drop 3 counts
    → {answer : Result Answer Refusal} {code : ℕ} {numbers' : List ℕ} → r.answer ≡ answer → code ≡ yes_no (acceptance_of answer)
    → numbers' ≡ subtree_after (finding_of answer) numbers
    → Gives (checking counts table tree numbers) code counts' numbers'
answered counts table tree numbers r enough room checks put told is named =
    let put = put ∙ ap (λ (c : Counts). counts_numbers c ++ drop 3 counts) checks.counts_after in
    let code = is ∙ ap yes_no (ap acceptance_of (sym told) ∙ checks.answer) in
    let subtree = named ∙ ap (λ (x : Read Finding). subtree_after x numbers) (ap finding_of (sym told) ∙ checks.subtree) in
    let e = found_with yes_no _ _ _ _ _ enough refl put subtree in
    rw (check_roomy counts table tree numbers room) (code ∙ e.0, e.1)

pub returns-in-Ok-Accepted : goal.returns-in-Ok-Accepted
unfolding counts_in yes_no acceptance_of finding_of is_acceptance named_by map_read reading_of subtree_after
returns-in-Ok-Accepted c =
    let room : 2 ≤ length c.args.numbers.now = omega arith in
    let e =
    answered _ _ _ _ _ c.if-counts-lt3.false room c.check-checked.ensures (rw c.counts_numbers.ensures at c.put_all.ensures)
    (c.in-Ok-Accepted.is ∙ ap Ok (rw c.in-Ok-Accepted.is at c.in-Ok-Accepted.field-0-is)) refl refl in
    record { value = e.0; counts_after = e.1.0; numbers_after = e.1.1 }

pub returns-in-Ok-Rejected : goal.returns-in-Ok-Rejected
unfolding counts_in yes_no acceptance_of finding_of is_acceptance named_by map_read reading_of subtree_after
returns-in-Ok-Rejected c =
    let room : 2 ≤ length c.args.numbers.now = omega arith in
    let told : c.check-checked.result.answer ≡ Ok (Rejected c.in-Ok-Rejected.field-0-0) =
    c.in-Ok-Rejected.is ∙ ap Ok (rw c.in-Ok-Rejected.is at c.in-Ok-Rejected.field-0-is) in
    let e =
    answered _ _ _ _ _ c.if-counts-lt3.false room c.check-checked.ensures (rw c.counts_numbers.ensures at c.put_all.ensures) told
    refl (rw told at c.put_all-in-Ok-Rejected.ensures) in
    record { value = e.0; counts_after = e.1.0; numbers_after = e.1.1 }

pub returns-in-Err : goal.returns-in-Err
unfolding counts_in yes_no acceptance_of finding_of map_read reading_of subtree_after
returns-in-Err c =
    let room : 2 ≤ length c.args.numbers.now = omega arith in
    let e =
    answered _ _ _ _ _ c.if-counts-lt3.false room c.check-checked.ensures (rw c.counts_numbers.ensures at c.put_all.ensures) c.in-Err.is c.from.ensures refl in
    record { value = e.0; counts_after = e.1.0; numbers_after = e.1.1 }
