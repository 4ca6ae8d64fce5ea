-- A record: a length (4 bytes), a kind (2 bytes) and a body; the length counts kind and body.
use Rattle.std.specs.Prelude.{ℕ, ◌+◌, ◌-◌, List, [], ◌∷◌, ◌++◌, Bool, cond, ◌&&◌, length, take, drop, leb}
use Rattle.records.specs.Bytes.{number2, number4, bytes2, bytes4}

-- What stands first in some bytes: a record with its kind and its end, nothing, or a cause by document 01's number.
pub data Opening : Type 0 where
  whole : (kind end : ℕ) → Opening
  nothing : Opening
  refused : (cause : ℕ) → Opening

-- Where a record that starts with these bytes ends.
unfoldable pub end_of : List ℕ → ℕ
end_of b = 4 + number4 b

-- The length is at least 2, and all of the record is there.
unfoldable pub is_whole : List ℕ → Bool
is_whole b = leb 2 (number4 b) && leb (end_of b) (length b)

unfoldable pub opened : List ℕ → Opening
opened [] = nothing
opened (x ∷ b) = cond (is_whole (x ∷ b)) (whole (number2 (drop 4 (x ∷ b))) (end_of (x ∷ b))) (refused 1)

-- The body of the first record; empty where none opens.
unfoldable pub body_of : List ℕ → List ℕ
body_of b = cond (is_whole b) (take (end_of b - 6) (drop 6 b)) []

-- A record in bytes.
unfoldable pub encode_record : ℕ → List ℕ → List ℕ
encode_record kind body = bytes4 (2 + length body) ++ (bytes2 kind ++ body)
