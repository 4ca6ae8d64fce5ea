-- Demand 3 of the bytes: the bytes that are written are read back as the reduced automaton, of which all of it holds. From `Answers` and what
-- `stages` proves of the steps; for `reduce` and the theorems.
use Prim.Native.Nat.{ℕ, ◌≤◌, ◌<◌}
use mathlib.Core.Path.{◌≡◌, refl, sym, ap, ◌∙◌}
use mathlib.Core.List.{List}
use lib.ListN.{length, take, get_or}
use Rattle.records.specs.Refusal.{number_of}
use Rattle.records.specs.Read.{found}
use Rattle.automaton.specs.Automaton.{Automaton, WellFormed}
use Rattle.automaton.specs.Table.{judge, encode}
use Rattle.automaton.specs.Decoded.{size_of}
use Rattle.automaton.proofs.Theorems.{judged_well_formed, encode_judged, judge_encoded}
use Rattle.stages.specs.Steps.{numbered, reduce}
use Rattle.stages.proofs.Sizes.{reduce_well_formed, reduce_shorter}
use Rattle.stages.proofs.Agreement.{accepted_reduced, reduced_accepted, irreducible}
use Rattle.stages.proofs.Fixpoint.{irreducible_fixed}
use Rattle.reduction.specs.Reduce.{reduction, reduction_after}
use Rattle.reduction.specs.Demand3.{Again, Demand3, MeetsDemand3}
use Rattle.reduction.specs.declared.reducing.Reduction.{Reduction}
use Rattle.std.specs.Prelude.{Result, Ok, Err}
use Rattle.records.specs.Answers.{reading_of}
use Rattle.records.specs.declared.refusal.Refusal.{Refusal}
use Rattle.reduction.proofs.Answers.{answer_for, reduction_fits, after_fits, written_bytes, found_fits, reduction_keeps}
use Rattle.reduction.proofs.Answers.{acceptance_same}

pub ranks_stay : (A : Automaton) → (reduce A).ranks ≡ A.ranks
unfolding reduce numbered
ranks_stay A = refl

pub fixpoint_of : (A : Automaton) → WellFormed A → reduce (reduce A) ≡ reduce A
fixpoint_of A w = irreducible_fixed (reduce A) (reduce_well_formed A w) (irreducible A w)

-- The reduced table has room wherever the table has.
pub reduced_fits : (table : List ℕ) (A : Automaton) → ((i : ℕ) → get_or table i 0 < 256) → judge table ≡ found A
    → length (encode (reduce A)) ≤ length table
reduced_fits table A bytes e = rw (encode_judged table A bytes e) at (reduce_shorter A (judged_well_formed table A e))

again_from : (A : Automaton) → WellFormed A → (room : List ℕ) → length (encode (reduce A)) ≤ length room → Again (encode (reduce A)) room
unfolding answer_for
again_from A w room h =
    let B = reduce A in
    let same = fixpoint_of A w in
    let judged = judge_encoded B (reduce_well_formed A w) in
    let fits : length (encode (reduce B)) ≤ length room = rw same h in
    record {
      answer = answer_for B;
      is_answer = reduction_fits (encode B) room B judged fits;
      length_is = ap (λ (C : Automaton). length (encode C)) same;
      counts = ap size_of same;
      writes = rw same at (after_fits (encode B) room B judged fits);
    }

demand_3_from : (table out : List ℕ) (A : Automaton) → ((i : ℕ) → get_or table i 0 < 256) → judge table ≡ found A
    → length (encode (reduce A)) ≤ length out → Demand3 table out (answer_for A) (encode (reduce A))
unfolding answer_for
demand_3_from table out A bytes e fits =
    let w = judged_well_formed table A e in
    let judged = judge_encoded (reduce A) (reduce_well_formed A w) in
    let alike =
    acceptance_same table (encode (reduce A)) A (reduce A) e judged (ranks_stay A)
    (accepted_reduced A w) (reduced_accepted A w) in
    record {
      first = A;
      reduced = reduce A;
      is_first = e;
      is_reduced = judged;
      length_is = refl;
      old = refl;
      new = refl;
      rounds = refl;
      no_longer = reduced_fits table A bytes e;
      stays = after_fits table out A e fits;
      ranks = ranks_stay A;
      same_trees = λ t over. (accepted_reduced A w t, reduced_accepted A w t);
      same_answer = alike;
      irreducible = irreducible A w;
      again = again_from A w;
    }

pub demand_3 : (table out : List ℕ) (r : Reduction) → ((i : ℕ) → get_or table i 0 < 256) → reduction table out ≡ found r
    → Demand3 table out r (take r.length (reduction_after (judge table) out))
demand_3 table out r bytes h =
    let (A, e, fits) = found_fits table out r h in
    let answer : r ≡ answer_for A = cc (h, reduction_fits table out A e fits) in
    rw (answer, written_bytes table out A e fits) (demand_3_from table out A bytes e fits)

-- What the call ensures, from its equations.
pub promised : (table out after : List ℕ) (answer : Result Reduction Refusal) → ((i : ℕ) → get_or table i 0 < 256)
    → (reading_of answer ≡ reduction table out) × (after ≡ reduction_after (judge table) out)
    → (reading_of answer ≡ reduction table out) × ((after ≡ reduction_after (judge table) out) × MeetsDemand3 table out answer after)
unfolding reading_of MeetsDemand3
promised table out after (Ok r) bytes (h, o) = (h, (o, rw o (demand_3 table out r bytes (sym h))))
promised table out after (Err cause) bytes (h, o) = (h, (o, o ∙ reduction_keeps table out (number_of cause) (sym h)))
