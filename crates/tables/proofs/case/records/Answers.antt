-- A record that opens has room for its length and kind, and ends within the bytes.
use Rattle.std.proofs.Common.{◌≡◌, ◌<◌, ◌≤◌, ℕ, List, length, arith, rules, sym}
use Rattle.std.specs.Prelude.{Option, Some, Ok}
use Rattle.records.specs.Answers.{opening_of}
use Rattle.records.specs.Record.{opened}
use Rattle.records.specs.declared.record.Opened.{Opened}
use Rattle.records.proofs.Opening.{opened_within}
use Rattle.tables.proofs.case.records.Goals as goal

within : (b : List ℕ) (o : Option Opened) (r : Opened) → opening_of (Ok o) ≡ opened b → o ≡ Some r → (0 < r.end) × (r.end ≤ length b)
unfolding opening_of
within b o r e is = let w = opened_within b r.kind r.end (sym (rw is at e)) in (omega arith, w.stop)

pub slice_bounds-rest-count : goal.slice_bounds-rest-count
slice_bounds-rest-count g c = (within _ _ _ c.in-Ok-Some.ensures c.in-Ok-Some.field-0-is).1

pub slice_bounds-rest-start : goal.slice_bounds-rest-start
slice_bounds-rest-start g c = (within _ _ _ c.in-Ok-Some.ensures c.in-Ok-Some.field-0-is).1

pub loop-kind-smaller : goal.loop-kind-smaller
loop-kind-smaller g c = omega (arith, within _ _ _ c.in-Ok-Some.ensures c.in-Ok-Some.field-0-is)

pub loop-kind-preserved : goal.loop-kind-preserved
loop-kind-preserved g c = (search rules, omega (arith, within _ _ _ c.in-Ok-Some.ensures c.in-Ok-Some.field-0-is))
