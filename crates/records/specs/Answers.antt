-- What the code's answers say, in the words of the definitions: a refusal by document 01's number.
use Rattle.std.specs.Prelude.{Result, Ok, Err, Option, Some, None}
use Rattle.records.specs.Record as records
use Rattle.records.specs.Record.{Opening}
use Rattle.records.specs.Refusal.{number_of}
use Rattle.records.specs.Read.{Read, found, refused}
use Rattle.records.specs.declared.record.Opened.{Opened}
use Rattle.records.specs.declared.refusal.Refusal.{Refusal}

unfoldable pub reading_of : {A : Type 0} → Result A Refusal → Read A
reading_of (Ok a) = found a
reading_of (Err cause) = refused (number_of cause)

unfoldable pub opening_of : Result (Option Opened) Refusal → Opening
opening_of (Ok (Some r)) = records.whole r.kind r.end
opening_of (Ok None) = records.nothing
opening_of (Err cause) = records.refused (number_of cause)
