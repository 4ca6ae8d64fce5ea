-- Fields of bytes read one after the other, each step two bytes off the front; written and read again, and the reverse. By arithmetic on the bytes;
-- used for records, tables, trees and relations.
use Prim.Native.Nat.{ℕ, zero, suc, ◌+◌, ◌*◌, ◌/◌, ◌%◌, ◌≤◌, ◌<◌}
use native.Mathlib.Omega.{arith}
use native.Mathlib.Nat.{add-mul-mod_self_left}
use native.Mathlib.Numerals.{add-two}
use mathlib.Core.Path.{◌≡◌, refl}
use mathlib.Core.List.{List, [], ◌∷◌, ◌++◌, append_assoc}
use lib.ListN.{length, take, drop, get_or, length-drop}
use lib.Seq.{drop-cons, drop-drop, get_or-drop}
use Rattle.lists.specs.Lists.{All, none, also}
use Rattle.records.specs.Bytes.{number2, number4, numbers, bytes2, bytes4, fields}

-- The next field, and the fields after it.
pub numbers_step : (b : List ℕ) (i : ℕ) → i + 1 < length b → numbers (drop i b) ≡ number2 (drop i b) ∷ numbers (drop (i + 2) b)
unfolding numbers number2
numbers_step b i h = rw (add-two, drop-cons b i 0 (omega arith), drop-cons b (suc i) 0 (omega arith))

pub two_numbers : (b : List ℕ) → 4 ≤ length b → numbers b ≡ number2 b ∷ number2 (drop 2 b) ∷ numbers (drop 4 b)
two_numbers b h = rw (numbers_step b 0 (omega arith), numbers_step b 2 (omega arith))

-- Fewer than two bytes left: no field.
numbers_short : (b : List ℕ) → length b ≤ 1 → numbers b ≡ []
unfolding numbers
numbers_short [] h = refl
numbers_short (x ∷ []) h = refl
numbers_short (x ∷ (y ∷ b)) h = absurd (omega arith)

pub numbers_end : (b : List ℕ) (i : ℕ) → length b ≤ i + 1 → numbers (drop i b) ≡ []
numbers_end b i h = numbers_short (drop i b) (rw length-drop (omega arith))

pub length_numbers : (b : List ℕ) → length (numbers b) ≡ length b / 2
unfolding numbers
length_numbers [] = refl
length_numbers (x ∷ []) = refl
length_numbers (x ∷ (y ∷ b)) = omega (arith, length_numbers b)

-- Bytes.

abbrev pub Bytes : List ℕ → Type 0
Bytes b = (i : ℕ) → get_or b i 0 < 256

pub bytes_none : Bytes []
bytes_none i = omega arith

pub bytes_also : (x : ℕ) (b : List ℕ) → x < 256 → Bytes b → Bytes (x ∷ b)
bytes_also x b h hs zero = h
bytes_also x b h hs (suc i) = hs i

pub bytes_drop : (n : ℕ) (b : List ℕ) → Bytes b → Bytes (drop n b)
bytes_drop n b h i = rw get_or-drop (h (n + i))

pub bytes_take : (n : ℕ) (b : List ℕ) → Bytes b → Bytes (take n b)
bytes_take zero b h = bytes_none
bytes_take (suc n) [] h = h
bytes_take (suc n) (x ∷ b) h = bytes_also x (take n b) (h 0) (bytes_take n b (λ i. h (suc i)))

pub bytes_append : (a b : List ℕ) → Bytes a → Bytes b → Bytes (a ++ b)
bytes_append [] b ha hb = hb
bytes_append (x ∷ a) b ha hb = bytes_also x (a ++ b) (ha 0) (bytes_append a b (λ i. ha (suc i)) hb)

pub bytes_bytes2 : (v : ℕ) → Bytes (bytes2 v)
unfolding bytes2
bytes_bytes2 v =
    bytes_also (v % 256) ((v / 256 % 256) ∷ []) (omega arith) (bytes_also (v / 256 % 256) [] (omega arith) bytes_none)

pub bytes_bytes4 : (v : ℕ) → Bytes (bytes4 v)
unfolding bytes4
bytes_bytes4 v = bytes_append (bytes2 v) (bytes2 (v / 65536)) (bytes_bytes2 v) (bytes_bytes2 (v / 65536))

pub bytes_fields : (vs : List ℕ) → Bytes (fields vs)
unfolding fields
bytes_fields [] = bytes_none
bytes_fields (v ∷ vs) = bytes_append (bytes2 v) (fields vs) (bytes_bytes2 v) (bytes_fields vs)

-- Fields written and read again.

pub number2_bytes2 : (v : ℕ) (r : List ℕ) → v < 65536 → number2 (bytes2 v ++ r) ≡ v
unfolding number2 bytes2
number2_bytes2 v r h = omega arith

pub number4_bytes4 : (v : ℕ) (r : List ℕ) → v < 4294967296 → number4 (bytes4 v ++ r) ≡ v
unfolding number2 number4 bytes2 bytes4
number4_bytes4 v r h = omega arith

pub numbers_fields : {vs : List ℕ} → All (λ (v : ℕ). v < 65536) vs → numbers (fields vs) ≡ vs
unfolding numbers fields bytes2
numbers_fields none = refl
numbers_fields (also {x = v} h hs) =
    let e : v % 256 + 256 * (v / 256 % 256) ≡ v = omega arith in
    cc (numbers_fields hs)

pub first_field : (v : ℕ) (vs : List ℕ) → v < 65536 → number2 (fields (v ∷ vs)) ≡ v
unfolding fields
first_field v vs = number2_bytes2 v (fields vs)

pub drop_field : (v : ℕ) (vs : List ℕ) → drop 2 (fields (v ∷ vs)) ≡ fields vs
unfolding fields bytes2
drop_field v vs = refl

pub drop_two_fields : (u v : ℕ) (vs : List ℕ) → drop 4 (fields (u ∷ (v ∷ vs))) ≡ fields vs
unfolding fields bytes2
drop_two_fields u v vs = refl

pub length_fields : (vs : List ℕ) → length (fields vs) ≡ 2 * length vs
unfolding fields bytes2
length_fields [] = refl
length_fields (v ∷ vs) = omega (arith, length_fields vs)

-- Fields read and written again.

second_byte : (x y : ℕ) → x < 256 → y < 256 → (x + 256 * y) / 256 % 256 ≡ y
second_byte x y h l = omega arith

pub bytes2_number2 : (b : List ℕ) → Bytes b → 2 ≤ length b → bytes2 (number2 b) ++ drop 2 b ≡ b
unfolding number2 bytes2
bytes2_number2 [] h l = absurd (omega arith)
bytes2_number2 (x ∷ []) h l = absurd (omega arith)
bytes2_number2 (x ∷ (y ∷ b)) h l =
    let low : (x + 256 * y) % 256 ≡ x = omega (arith, h 0) in
    let high : (x + 256 * y) / 256 % 256 ≡ y = second_byte x y (h 0) (h 1) in
    cc

number2_below : (b : List ℕ) → Bytes b → number2 b < 65536
unfolding number2
number2_below b h = omega (arith, h 0, h 1)

bytes2_low : (v u : ℕ) → bytes2 (v + 65536 * u) ≡ bytes2 v
unfolding bytes2
bytes2_low v u =
    let low : (v + 65536 * u) % 256 ≡ v % 256 = omega arith in
    let quotient : (v + 65536 * u) / 256 ≡ v / 256 + 256 * u = omega arith in
    let high : (v / 256 + 256 * u) % 256 ≡ v / 256 % 256 = add-mul-mod_self_left (v / 256) 256 u in
    cc

pub bytes4_number4 : (b : List ℕ) → Bytes b → 4 ≤ length b → bytes4 (number4 b) ++ drop 4 b ≡ b
unfolding number4 bytes4
bytes4_number4 b h l =
    let low : ℕ = number2 b in
    let high : ℕ = number2 (drop 2 b) in
    let quotient : (low + 65536 * high) / 65536 ≡ high = omega (arith, number2_below b h) in
    let second = bytes2_number2 (drop 2 b) (bytes_drop 2 b h) (rw length-drop (omega arith)) in
    rw (bytes2_low low high, quotient, append_assoc (bytes2 low) (bytes2 high) (drop 4 b), ← (drop-drop 2 2 b), second)
    (bytes2_number2 b h (omega arith))

pub fields_numbers : (b : List ℕ) → Bytes b → length b % 2 ≡ 0 → fields (numbers b) ≡ b
unfolding number2 numbers fields
fields_numbers [] h e = refl
fields_numbers (x ∷ []) h e = absurd (omega arith)
fields_numbers (x ∷ (y ∷ b)) h e =
    rw (fields_numbers b (λ i. h (suc (suc i))) (omega arith)) (bytes2_number2 (x ∷ (y ∷ b)) h (omega arith))
