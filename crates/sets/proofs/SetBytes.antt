-- The bytes of a set, word by word. From the laws of division; for `bytes`.
use Prim.Native.Nat.{ℕ, ◌+◌, ◌*◌, ◌/◌, ◌%◌, ◌^◌, ◌<◌}
use native.Mathlib.Nat.{div-one, zero-add}
use native.Mathlib.Omega.{arith}
use mathlib.Core.Path.{◌≡◌, refl, sym, ap, ◌∙◌}
use mathlib.Core.List.{List, [], ◌∷◌, map}
use lib.ListN.{length, get_or}
use Rattle.std.specs.Int.{to_le_bytes, w64}
use Rattle.std.specs.List.{flat_map}
use Rattle.lists.specs.Lists.{from}
use Rattle.lists.proofs.Mapping.{map_shifted}
use Rattle.sets.specs.Inner.{set_byte, set_bytes}

word_bytes : (set : List ℕ) (i : ℕ) → to_le_bytes w64 (get_or set i 0) ≡ map (set_byte set) (from (8 * i) 8)
unfolding set_byte from
word_bytes set i =
    sym (map_shifted (set_byte set) (λ (j : ℕ). get_or set i 0 / 2 ^ (8 * j) % 256) (8 * i) 0 8
    (λ j h. let word : (8 * i + j) / 8 ≡ i = omega arith in
    let place : (8 * i + j) % 8 ≡ j = omega arith in
    rw (word, place, zero-add) refl)
    ∙ ap (λ (v : ℕ). v % 256 ∷ later) (div-one (get_or set i 0)))
  where
    w : ℕ
    w = get_or set i 0

    later : List ℕ
    later = map (λ (j : ℕ). w / 2 ^ (8 * j) % 256) (from 1 7)

-- The bytes of the words, one word after the other.
pub bytes_by_word : (set : List ℕ) (parts : List (List ℕ)) → length parts ≡ 4
    → ((i : ℕ) → i < 4 → get_or parts i [] ≡ to_le_bytes w64 (get_or set i 0)) → flat_map (λ (part : List ℕ). part) parts ≡ set_bytes set
unfolding set_bytes from
bytes_by_word set (a ∷ b ∷ c ∷ d ∷ []) four each =
    rw (each 0 (omega arith) ∙ word_bytes set 0, each 1 (omega arith) ∙ word_bytes set 1, each 2 (omega arith) ∙ word_bytes set 2, each 3 (omega arith) ∙ word_bytes set 3) refl
bytes_by_word set [] four each = absurd (omega arith)
bytes_by_word set (a ∷ []) four each = absurd (omega arith)
bytes_by_word set (a ∷ b ∷ []) four each = absurd (omega arith)
bytes_by_word set (a ∷ b ∷ c ∷ []) four each = absurd (omega arith)
bytes_by_word set (a ∷ b ∷ c ∷ d ∷ e ∷ parts) four each = absurd (omega arith)
