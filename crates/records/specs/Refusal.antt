-- Document 01's number for each refusal.
use Rattle.std.specs.Prelude.{ℕ}
use Rattle.records.specs.declared.refusal.Refusal.{Refusal}
use Rattle.records.specs.declared.refusal.Refusal.TheVariants.{BrokenRecord, WrongKind, WrongLength, AboveLimit, OutOfRange}
use Rattle.records.specs.declared.refusal.Refusal.TheVariants.{FinalsOutOfOrder, WrongRuleCount, NotATree, UnknownSymbol, Unbalanced}
use Rattle.records.specs.declared.refusal.Refusal.TheVariants.{TreeAboveLimit, UnknownState, ShortOutput}

abbrev pub number_of : Refusal → ℕ
number_of BrokenRecord = 1
number_of WrongKind = 2
number_of WrongLength = 3
number_of AboveLimit = 4
number_of OutOfRange = 5
number_of FinalsOutOfOrder = 6
number_of WrongRuleCount = 7
number_of NotATree = 8
number_of UnknownSymbol = 9
number_of Unbalanced = 10
number_of TreeAboveLimit = 11
number_of UnknownState = 12
number_of ShortOutput = 13

-- The greatest of these numbers.
abbrev pub last_cause : ℕ
last_cause = 13
