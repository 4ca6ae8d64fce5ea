-- A set of states: four 64-bit words, state q at bit q mod 64 of word q div 64.
use Rattle.std.specs.Prelude.{ℕ, ◌/◌, ◌%◌, ◌^◌, List, [], ◌∷◌, Bool, cond, ◌&&◌, get_or, eqb}
use Rattle.std.specs.Int.Bits.{bit_and, bit_or, bit_xor}

-- Whether state q is in the set. A set has four words and a state is below 256, so the word is there, here and below.
unfoldable pub member : List ℕ → ℕ → Bool
member ws q = eqb (get_or ws (q / 64) 0 / 2 ^ (q % 64) % 2) 1

-- Four words, each by its number.
unfoldable pub words : (ℕ → ℕ) → List ℕ
words f = f 0 ∷ f 1 ∷ f 2 ∷ f 3 ∷ []

unfoldable pub empty_set : List ℕ
empty_set = words (λ (i : ℕ). 0)

-- Word i replaced by w.
unfoldable pub replaced : List ℕ → ℕ → ℕ → List ℕ
replaced ws i w = words (λ (j : ℕ). cond (eqb j i) w (get_or ws j 0))

-- The set with state q, without it, the union and the common states of two sets, and whether they are the same.
unfoldable pub with_state : List ℕ → ℕ → List ℕ
with_state ws q = replaced ws (q / 64) (bit_or (get_or ws (q / 64) 0) (2 ^ (q % 64)))

unfoldable pub without_state : List ℕ → ℕ → List ℕ
without_state ws q = replaced ws (q / 64) (bit_xor (bit_or (get_or ws (q / 64) 0) (2 ^ (q % 64))) (2 ^ (q % 64)))

unfoldable pub union_of : List ℕ → List ℕ → List ℕ
union_of ws vs = words (λ (i : ℕ). bit_or (get_or ws i 0) (get_or vs i 0))

unfoldable pub meet_of : List ℕ → List ℕ → List ℕ
meet_of ws vs = words (λ (i : ℕ). bit_and (get_or ws i 0) (get_or vs i 0))

unfoldable pub same_set : List ℕ → List ℕ → Bool
same_set ws vs = eqb (get_or ws 0 0) (get_or vs 0 0) && (eqb (get_or ws 1 0) (get_or vs 1 0)
    && (eqb (get_or ws 2 0) (get_or vs 2 0) && eqb (get_or ws 3 0) (get_or vs 3 0)))
