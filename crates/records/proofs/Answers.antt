-- What the answer of `open` says once the code has taken it apart, where it finds no record. By the answer's case; used by `body` and by the code
-- above that asks for a record.
use Prim.Native.Nat.{ℕ}
use mathlib.Core.Path.{◌≡◌, refl, ◌∙◌}
use mathlib.Core.List.{List}
use Rattle.std.specs.Prelude.{Result, Ok, Err, Option, Some, None}
use Rattle.records.specs.Record.{whole, opened}
use Rattle.records.specs.Answers.{opening_of}
use Rattle.records.specs.declared.record.Opened.{Opened}
use Rattle.records.specs.declared.refusal.Refusal.{Refusal}
use Rattle.records.proofs.Opening.{nothing≢whole, refused≢whole}

pub none_opens : (b : List ℕ) (o : Result (Option Opened) Refusal) → opening_of o ≡ opened b
    → ((r : Opened) → o ≡ Ok (Some r) → ⊥) → (kind end : ℕ) → opened b ≡ whole kind end → ⊥
unfolding opening_of
none_opens b (Ok (Some r)) e none kind end h = none r refl
none_opens b (Ok None) e none kind end h = nothing≢whole (e ∙ h)
none_opens b (Err cause) e none kind end h = refused≢whole (e ∙ h)
