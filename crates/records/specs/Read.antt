-- Reading ends with what was read or with the first cause of refusal, by document 01's number.
use Rattle.std.specs.Prelude.{ℕ, Bool, true, false}

infixl 20 ◌>>=◌
infixl 20 ◌>>◌
pub data Read (A : Type 0) : Type 0 where
  found : A → Read A
  refused : (cause : ℕ) → Read A

-- One step after the other; the first refusal ends the reading.
unfoldable pub ◌>>=◌ : {A B : Type 0} → Read A → (A → Read B) → Read B
found a >>= next = next a
refused cause >>= next = refused cause

unfoldable pub ◌>>◌ : {A B : Type 0} → Read A → Read B → Read B
found a >> next = next
refused cause >> next = refused cause

-- The cause given, unless the test holds.
unfoldable pub check : Bool → ℕ → Read (Unit {0})
check true cause = found tt
check false cause = refused cause

unfoldable pub map_read : {A B : Type 0} → (A → B) → Read A → Read B
map_read f (found a) = found (f a)
map_read f (refused cause) = refused cause
