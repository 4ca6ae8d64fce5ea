-- `fensullay::table::fensullay_report` meets its contract: the report stands at the start of its array, and is copied whole where it has room.
use Rattle.std.proofs.Common.{◌≡◌, ◌≤◌, ◌<◌, ◌∙◌, List, [], ◌∷◌, ◌++◌, ℕ, length, take, drop, refl, sym, ap, arith}
use Rattle.std.proofs.lemmas.Bool.Decides.{nat_tests}
use lib.Seq.{take_at}
use Rattle.lists.proofs.Overwriting.{over_behind}
use Rattle.records.specs.Read.{found}
use Rattle.records.proofs.Buffers.{room_enough, room_short}
use Rattle.reporting.specs.Report.{report}
use Rattle.fensullay.specs.Exports.{done, reporting}
use Rattle.fensullay.proofs.Exported.{Gives, too_few, refused_with, found_with}
use Rattle.fensullay.proofs.table.fensullay_report.Goals as goal

module _ (input out numbers : List ℕ) (room : 1 ≤ length numbers) where
  reported_short : {end : ℕ} → end ≡ length (report input) → length out < end → Gives (reporting input out numbers) 13 numbers out
  unfolding reporting
  reported_short e h =
      let short = room_short (report input) out (omega arith) in
      refused_with _ _ _ _ _ _ room (sym short.0) refl (sym short.1)

  reported_in : (end : ℕ) (lines rest after numbers' : List ℕ) → end ≡ length (report input) → end ≤ length out
      → lines ≡ report input ++ rest → after ≡ take end lines ++ drop (length (take end lines)) out → numbers' ≡ end ∷ drop 1 numbers
      → Gives (reporting input out numbers) 0 numbers' after
  unfolding reporting done
  reported_in end lines rest after numbers' e h is put numbered =
      let fits = room_enough (report input) out (omega arith) in
      let taken : take end lines ≡ report input = rw is (take_at (report input) rest end (sym e)) in
      found_with _ _ _ _ _ _ room (ap found e ∙ sym fits.0) numbered
      (put ∙ ap (λ (bytes : List ℕ). bytes ++ drop (length bytes) out) taken ∙ sym (fits.1 ∙ over_behind [] out (report input) 0 refl))

pub returns-then-is_empty : goal.returns-then-is_empty
unfolding reporting
returns-then-is_empty c =
    let e = too_few _ _ _ _ _ _ (grind (arith, nat_tests)) in
    record { value = e.0; numbers_after = e.1.0; out_after = e.1.1 }

pub returns-then-out-end : goal.returns-then-out-end
returns-then-out-end c =
    let e =
    reported_short c.args.input.now c.args.out.now c.args.numbers.now (grind (arith, nat_tests)) c.report-end.ensures.value
    c.if-out-end.true in
    record { value = cc e.0; numbers_after = e.1.0; out_after = e.1.1 }

pub returns : goal.returns
returns c =
    let e =
    reported_in _ _ _ (grind (arith, nat_tests)) _ _ _ _ _ c.report-end.ensures.value c.if-out-end.false c.report-end.ensures.out_after
    c.put_all.ensures c.put_all-2.ensures in
    record { value = e.0; numbers_after = e.1.0; out_after = e.1.1 }
