-- The rules before the index are renamed, and the rows from there on are as before.
use Rattle.reduction.specs.Inner.{name_in}
use Rattle.reduction.proofs.rows.Compacting.{Renamed}
use Rattle.reduction.proofs.rows.rename_rules.Given as goal

abbrev pub invariant-loop-rule : goal.invariant-loop-rule
invariant-loop-rule l = Renamed (name_in l.names) l.initial.rules l.rule-index l.rules
