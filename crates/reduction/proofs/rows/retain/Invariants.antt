-- The ones of the first i rules that pass stand in front, and the rows from there on are as before.
use Rattle.std.proofs.Common.{◌≡◌, ◌≤◌, ◌<◌, ℕ, Bool, length}
use Rattle.automaton.specs.Row.{rule_of, rule_at, rules_of}
use Rattle.reduction.proofs.rows.Compacting.{Retained}
use Rattle.reduction.proofs.rows.retain.Given as goal

abbrev pub invariant-loop-i : goal.invariant-loop-i
invariant-loop-i g l = record {
  few : l.kept ≤ l.i;
  retained : (test : ℕ → Bool)
      → ((i : ℕ) (row : _) (b : Bool) → goal.F-post g l.passes i row b → i < length l.initial.rules
      → rule_at (rules_of l.initial.rules) i ≡ rule_of row.now → b ≡ test i)
      → Retained test l.initial.rules l.i l.kept l.rules;
}
