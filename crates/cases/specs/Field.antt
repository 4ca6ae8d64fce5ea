-- What a number and a field take from the known bytes of a reader.
use Rattle.std.specs.Prelude.{◌≡◌, ℕ, ◌<◌, List, ◌++◌, length, Option, ◌⊎◌}
use Rattle.std.specs.Int.{from_le_bytes, w32}
use Rattle.std.specs.Io.KnownBytes.{Consumes, IsAtEnd}

-- the known bytes begin with the number n, in so many bytes, the lowest first, and lose them
pub record IsNumber (width : ℕ) (old new : Option (List ℕ)) (n : ℕ) : Type 0 where
  pub bytes : List ℕ
  pub many : length bytes ≡ width
  pub taken : Consumes old new bytes
  pub value : n ≡ from_le_bytes w32 bytes

-- the known bytes begin with the length of `part`, a number in so many bytes, and then with the bytes of `part`, and lose them
pub record IsField (width : ℕ) (old new : Option (List ℕ)) (part : List ℕ) : Type 0 where
  pub bytes : List ℕ
  pub many : length bytes ≡ width
  pub taken : Consumes old new (bytes ++ part)
  pub value : length part ≡ from_le_bytes w32 bytes

-- no byte is left, or what was taken is a number above the room for a field
abbrev pub IsNoField : ℕ → Option (List ℕ) → Option (List ℕ) → ℕ → Type 0
IsNoField width old new room = IsAtEnd new ⊎ ((n : ℕ) × IsNumber width old new n × (room < n))
