-- The rules below the index are marked.
use Rattle.std.proofs.Common.{ℕ, ◌≡◌, ◌<◌, length}
use Rattle.automaton.specs.Row.{rules_of}
use Rattle.reduction.specs.Inner.{marked, stays}
use Rattle.reduction.proofs.marking.mark_staying.Given as goal

abbrev pub invariant-loop-i : goal.invariant-loop-i
invariant-loop-i g l = record {
  long : length l.marks ≡ 1024;
  marks : (j : ℕ) → j < l.i → marked l.marks j ≡ stays g.W.Why.goes_for l.relation (rules_of l.rules) j;
}
