-- The cases so far, one for each turn, and that the closure can be called for the next.
use Rattle.std.proofs.Common.{◌≡◌, ℕ, List, length, true}
use Rattle.std.specs.List.{FoldsTo}
use Rattle.cases.specs.Run.{IsCase}
use Rattle.cases.proofs.run.Given as goal

abbrev pub invariant-loop : goal.invariant-loop
invariant-loop g l = record {
  callable : goal.F-IsAlwaysCallable g l.case;
  names : List (List ℕ);
  many : length names ≡ l.counter;
  turns : FoldsTo (IsCase g.R.Read.remaining g.W.Write.contents g.F.FnMut true) (record { input = l.initial.input; out = l.initial.out; case = l.initial.case }) names (record { input = l.input; out = l.out; case = l.case });
}
