-- Fields of two and of four bytes, unsigned and little-endian.
use Rattle.std.specs.Prelude.{ℕ, ◌+◌, ◌*◌, ◌/◌, ◌%◌, List, [], ◌∷◌, ◌++◌, get_or, drop}

-- The number in the first two bytes, and in the first four. A byte that is not there counts 0; `judge` looks only at bodies whose length it
-- has tested, and `is_whole` holds of no bytes that are too few for a length and a kind.
unfoldable pub number2 : List ℕ → ℕ
number2 b = get_or b 0 0 + 256 * get_or b 1 0

unfoldable pub number4 : List ℕ → ℕ
number4 b = number2 b + 65536 * number2 (drop 2 b)

-- The numbers in two-byte fields, one after the other. A single byte at the end is none; an odd body is refused before its numbers count.
unfoldable pub numbers : List ℕ → List ℕ
numbers [] = []
numbers (low ∷ []) = []
numbers (low ∷ (high ∷ b)) = (low + 256 * high) ∷ numbers b

-- A number below 65,536 as two bytes, one below 4,294,967,296 as four, and numbers as two bytes each.
unfoldable pub bytes2 : ℕ → List ℕ
bytes2 v = (v % 256) ∷ ((v / 256) % 256) ∷ []

unfoldable pub bytes4 : ℕ → List ℕ
bytes4 v = bytes2 v ++ bytes2 (v / 65536)

unfoldable pub fields : List ℕ → List ℕ
fields [] = []
fields (v ∷ vs) = bytes2 v ++ fields vs
