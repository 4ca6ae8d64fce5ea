-- Document 01's number for each kind of record.
use Rattle.std.specs.Prelude.{ℕ}
use Rattle.records.specs.declared.kind.Kind.{Kind}
use Rattle.records.specs.declared.kind.Kind.TheVariants.{Size, Ranks, Finals, Rule, Tree}

abbrev pub code_of : Kind → ℕ
code_of Size = 1
code_of Ranks = 2
code_of Finals = 3
code_of Rule = 4
code_of Tree = 16
