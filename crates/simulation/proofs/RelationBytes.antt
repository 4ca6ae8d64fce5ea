-- A relation in rows of sets: the rows' bytes are the relation's, and their states are its pairs. From the laws of bits; for
-- `Queries` and the functions that write rows and count pairs.
use Prim.Native.Nat.{ℕ, zero, suc, ◌+◌, ◌-◌, ◌*◌, ◌/◌, ◌%◌, ◌^◌, ◌≤◌, ◌<◌}
use mathlib.Core.Path.{◌≡◌, refl, sym, ap, ap₂, ◌∙◌}
use mathlib.Core.List.{List, [], ◌∷◌, ◌++◌, map, append-nil, append_assoc}
use mathlib.Core.Bool.{Bool, true, false, cond}
use native.Mathlib.Nat.{add-zero, add-suc, suc-add, zero-add, add_assoc}
use native.Mathlib.Numerals.{add-one}
use native.Mathlib.Omega.{arith}
use lib.ListN.{length, take, get_or, length-append, length-map, get_or-append}
use lib.Seq.{get_or-append-add, length-take-le}
use lib.Dec.{eqb}
use lib.Pow.{mod-pow-add, shr-shr}
use Rattle.std.proofs.lemmas.List.Sums.{sum_by-cons}
use borrow.Author.Tests.{eq-eqb, ne_eqb, eqb-true, eqb-false}
use Rattle.lists.specs.Lists.{from, keep}
use Rattle.lists.specs.Over.{over}
use Rattle.lists.proofs.Ranges.{length_from, from_append, each_from}
use Rattle.lists.proofs.Overwriting.{over_then}
use Rattle.lists.proofs.Mapping.{map_shifted}
use Rattle.lists.proofs.Keeping.{keep_none, keep_append, keep_agree, keep_shorter}
use Rattle.sets.specs.Set.{member}
use Rattle.sets.specs.Entries.{entry_at}
use Rattle.sets.specs.Inner.{states_in, set_byte, set_bytes}
use Rattle.sets.specs.declared.set.StateSet.{StateSet}
use Rattle.sets.proofs.StateSets.{bit, bit_suc}
use Rattle.refinement.specs.Simulation.{Relation, related}
use Rattle.refinement.specs.Inner.{relation_in}
use Rattle.refinement.proofs.Pairs.{pairs_in}
use Rattle.refinement.proofs.RelationRows.{related_in}
use Rattle.simulation.specs.Query.{bits_from, row_bytes, relation_rows}
use Rattle.simulation.specs.Inner.{bytes_of, pairs_of}

-- The lowest bits of a number.

digit : (t : Bool) (x : ℕ) → x < 2 → eqb x 1 ≡ t → x ≡ cond t 1 0
digit true x h e = eqb-true x 1 e
digit false x h e = let other : x ≡ 1 → ⊥ = eqb-false x 1 e in omega arith

bit_shifted : (w s k : ℕ) → bit (w / 2 ^ s) k ≡ bit w (s + k)
unfolding bit
bit_shifted w s k = rw shr-shr

low_bits : (R : Relation) (q n r x : ℕ) → ((k : ℕ) → k < n → bit x k ≡ related R q (r + k))
    → x % 2 ^ n ≡ bits_from R q r n
unfolding bits_from bit
low_bits R q zero r x h = omega arith
low_bits R q (suc n) r x h =
    let first : x / 2 ^ 0 % 2 ≡ cond (related R q r) 1 0 =
    digit (related R q r) (x / 2 ^ 0 % 2) (omega arith) (h 0 (omega arith) ∙ ap (related R q) (add-zero r)) in
    let later : x / 2 % 2 ^ n ≡ bits_from R q (suc r) n =
    low_bits R q n (suc r) (x / 2)
    (λ k l. sym (bit_suc x k) ∙ h (suc k) (omega arith) ∙ ap (related R q) (omega arith)) in
    let split : x % 2 ^ (n + 1) ≡ x / 2 ^ 1 % 2 ^ n * 2 ^ 1 + x % 2 ^ 1 = mod-pow-add x n 1 in
    ap (λ (m : ℕ). x % 2 ^ m) (sym (add-one n)) ∙ split ∙ omega arith

-- Rows and pairs.

length_keep_append : (test : ℕ → Bool) (i a b : ℕ)
    → length (keep test (from i (a + b))) ≡ length (keep test (from i a)) + length (keep test (from (i + a) b))
length_keep_append test i a b = rw (from_append, keep_append, length-append)

map_at : (f : ℕ → ℕ) (n a j : ℕ) → j < n → get_or (map f (from a n)) j 0 ≡ f (a + j)
unfolding from
map_at f zero a j h = absurd (omega arith)
map_at f (suc n) a zero h = rw add-zero
map_at f (suc n) a (suc j) h = rw (add-suc, ← suc-add) (map_at f n (suc a) j (omega arith))

pairs_append : (f : ℕ → ℕ → Bool) (ps qs rs : List ℕ) → pairs_in f (ps ++ qs) rs ≡ pairs_in f ps rs + pairs_in f qs rs
unfolding pairs_in
pairs_append f [] qs rs = sym (zero-add (pairs_in f qs rs))
pairs_append f (p ∷ ps) qs rs = rw (pairs_append f ps qs rs, add_assoc)

rows_append : (R : Relation) (ps qs : List ℕ) → relation_rows R (ps ++ qs) ≡ relation_rows R ps ++ relation_rows R qs
unfolding relation_rows
rows_append R [] qs = refl
rows_append R (p ∷ ps) qs = rw (rows_append R ps qs, append_assoc)

abbrev pub states_count : StateSet → ℕ
states_count row = length (states_in 256 row.words)

module _ (rows : List StateSet) where
  abbrev R : Relation
  R = relation_in rows

  set_bit : (q r : ℕ) → q < 256 → r < 256 → bit (get_or (entry_at rows q) (r / 64) 0) (r % 64) ≡ related R q r
  unfolding bit member
  set_bit q r h l = sym (related_in rows q r h l)

  byte_is : (q i : ℕ) → q < 256 → i < 32 → set_byte (entry_at rows q) i ≡ bits_from R q (8 * i) 8
  unfolding set_byte
  byte_is q i h l =
      low_bits R q 8 (8 * i) (get_or (entry_at rows q) (i / 8) 0 / 2 ^ (8 * (i % 8)))
      (λ k b.
      let word : (8 * i + k) / 64 ≡ i / 8 = omega arith in
      let place : (8 * i + k) % 64 ≡ 8 * (i % 8) + k = omega arith in
      let is : bit (get_or (entry_at rows q) (i / 8) 0) (8 * (i % 8) + k) ≡ related R q (8 * i + k) =
      rw (word, place) at (set_bit q (8 * i + k) h (omega arith)) in
      bit_shifted (get_or (entry_at rows q) (i / 8) 0) (8 * (i % 8)) k ∙ is)

  row_is : (q : ℕ) → q < 256 → set_bytes (entry_at rows q) ≡ row_bytes R q
  unfolding set_bytes row_bytes
  row_is q h =
      map_shifted (set_byte (entry_at rows q)) (λ (i : ℕ). bits_from R q (8 * i) 8) 0 0 32
      (λ i l. rw zero-add (byte_is q i h l))

  bytes_from : (xs : List StateSet) (p n : ℕ) → n ≤ length xs → ((q : ℕ) → q < n → set_bytes (entry_at xs q) ≡ row_bytes R (p + q))
      → bytes_of (take n xs) ≡ relation_rows R (from p n)
  unfolding from relation_rows entry_at
  bytes_from xs p zero h same = refl
  bytes_from [] p (suc n) h same = absurd (omega arith)
  bytes_from (x ∷ xs) p (suc n) h same =
      ap₂ ◌++◌ (rw add-zero at (same 0 (omega arith)))
      (bytes_from xs (suc p) n (omega arith) (λ q l. rw (add-suc, ← suc-add) at (same (suc q) (omega arith))))

  pub bytes_rows : (n : ℕ) → n ≤ length rows → n ≤ 256 → bytes_of (take n rows) ≡ relation_rows R (from 0 n)
  bytes_rows n long few = bytes_from rows 0 n long (λ q h. rw zero-add (row_is q (omega arith)))

  row_pairs : (q : ℕ) → q < 256 → length (states_in 256 (entry_at rows q)) ≡ length (keep (related R q) (from 0 256))
  unfolding states_in
  row_pairs q h =
      ap length (keep_agree _ _ (from 0 256) (each_from _ 0 256 (λ r a b. sym (related_in rows q r h (omega arith)))))

  pairs_from : (xs : List StateSet) (p n : ℕ) → n ≤ length xs
      → ((q : ℕ) → q < n → length (states_in 256 (entry_at xs q)) ≡ length (keep (related R (p + q)) (from 0 256)))
      → pairs_of (take n xs) ≡ pairs_in (related R) (from p n) (from 0 256)
  unfolding from pairs_in entry_at
  pairs_from xs p zero h same = refl
  pairs_from [] p (suc n) h same = absurd (omega arith)
  pairs_from (x ∷ xs) p (suc n) h same =
      sum_by-cons states_count x (take n xs)
      ∙ ap₂ ◌+◌ (rw add-zero at (same 0 (omega arith)))
      (pairs_from xs (suc p) n (omega arith) (λ q l. rw (add-suc, ← suc-add) at (same (suc q) (omega arith))))

  columns_below : (qs : List ℕ) (n : ℕ) → n ≤ 256 → ((q r : ℕ) → n ≤ r → related R q r ≡ false)
      → pairs_in (related R) qs (from 0 256) ≡ pairs_in (related R) qs (from 0 n)
  unfolding pairs_in
  columns_below [] n h low = refl
  columns_below (q ∷ qs) n h low =
      let all : n + (256 - n) ≡ 256 = omega arith in
      let few : length (keep (related R q) (from 0 256)) ≡ length (keep (related R q) (from 0 n)) + 0 =
      rw (all, zero-add, keep_none (related R q) (from n (256 - n)) (each_from _ n (256 - n) (λ r l b. low q r l)))
      at (length_keep_append (related R q) 0 n (256 - n)) in
      rw (few, add-zero, columns_below qs n h low)

  pub pairs_rows : (n : ℕ) → n ≤ length rows → n ≤ 256 → ((q r : ℕ) → n ≤ r → related R q r ≡ false)
      → pairs_of (take n rows) ≡ pairs_in (related R) (from 0 n) (from 0 n)
  pairs_rows n long few low =
      pairs_from rows 0 n long (λ q h. rw zero-add (row_pairs q (omega arith))) ∙ columns_below (from 0 n) n few low

-- A bound on the pairs of some rows.

pub pairs_few : (rows : List StateSet) → pairs_of rows ≤ 256 * length rows
unfolding states_in
pairs_few [] = omega arith
pairs_few (row ∷ rows) =
    omega (arith, sum_by-cons states_count row rows, pairs_few rows, keep_shorter (member row.words) (from 0 256), length_from 0 256)

-- The rows of any relation.

lowest : (t : Bool) (x : ℕ) → (bit (cond t 1 0 + 2 * x) 0 ≡ t) × ((cond t 1 0 + 2 * x) / 2 ≡ x)
unfolding bit
lowest true x = (eq-eqb ((1 + 2 * x) / 2 ^ 0 % 2) 1 (omega arith), omega arith)
lowest false x = (ne_eqb ((0 + 2 * x) / 2 ^ 0 % 2) 1 (omega arith), omega arith)

module _ (R : Relation) where
  length_row : (q : ℕ) → length (row_bytes R q) ≡ 32
  unfolding row_bytes
  length_row q = rw (length-map, length_from)

  pub length_rows : (qs : List ℕ) → length (relation_rows R qs) ≡ 32 * length qs
  unfolding relation_rows
  length_rows [] = refl
  length_rows (q ∷ qs) = rw (length-append, length_row q, length_rows qs) (omega arith)

  rows_at : (n p q j : ℕ) → q < n → j < 32 → get_or (relation_rows R (from p n)) (32 * q + j) 0 ≡ bits_from R (p + q) (8 * j) 8
  unfolding relation_rows from
  rows_at zero p q j h l = absurd (omega arith)
  rows_at (suc n) p zero j h l =
      rw (zero-add, add-zero)
      (get_or-append (row_bytes R p) (relation_rows R (from (suc p) n)) 0 j (omega (arith, length_row p))
      ∙ unfold row_bytes in map_at (λ (i : ℕ). bits_from R p (8 * i) 8) 32 0 j l ∙ rw zero-add)
  rows_at (suc n) p (suc q) j h l =
      let place : 32 * suc q + j ≡ length (row_bytes R p) + (32 * q + j) = omega (arith, length_row p) in
      rw (place, get_or-append-add, add-suc, ← suc-add) (rows_at n (suc p) q j (omega arith) l)

  -- A bit of the rows is a pair.
  bits_bit : (n q r k : ℕ) → k < n → bit (bits_from R q r n) k ≡ related R q (r + k)
  unfolding bits_from
  bits_bit zero q r k h = absurd (omega arith)
  bits_bit (suc n) q r zero h = rw add-zero (lowest (related R q r) (bits_from R q (suc r) n)).0
  bits_bit (suc n) q r (suc k) h =
      bit_suc _ k
      ∙ ap (λ (x : ℕ). bit x k) (lowest (related R q r) (bits_from R q (suc r) n)).1
      ∙ bits_bit n q (suc r) k (omega arith)
      ∙ ap (related R q) (omega arith)

  pub rows_bit : (n q r : ℕ) → q < n → r < 256
      → bit (get_or (relation_rows R (from 0 n)) (32 * q + r / 8) 0) (r % 8) ≡ related R q r
  rows_bit n q r h b =
      rw (rows_at n 0 q (r / 8) h (omega arith), zero-add)
      (bits_bit 8 q (8 * (r / 8)) (r % 8) (omega arith) ∙ ap (related R q) (omega arith))

-- The bytes of the first rows, and a turn of the loop that writes them.

pub length_set : (set : List ℕ) → length (set_bytes set) ≡ 32
unfolding set_bytes
length_set set = length-map (from 0 32) (set_byte set) ∙ length_from 0 32

pub length_bytes : (rows : List StateSet) → length (bytes_of rows) ≡ 32 * length rows
length_bytes [] = refl
length_bytes (row ∷ rows) = rw (length-append, length_bytes rows, length_set) (omega arith)

bytes_more : (rows : List StateSet) (i : ℕ) (row : StateSet) → i < length rows → row ≡ get_or rows i row
    → bytes_of (take (suc i) rows) ≡ bytes_of (take i rows) ++ set_bytes row.words
bytes_more [] i row h is = absurd (omega arith)
bytes_more (x ∷ xs) zero row h is = rw (← is) (append-nil _)
bytes_more (x ∷ xs) (suc i) row h is = rw (bytes_more xs i row (omega arith) is) (sym (append_assoc (set_bytes x.words) (bytes_of (take i xs)) (set_bytes row.words)))

pub bytes_next : (out : List ℕ) (rows : List StateSet) (now : List ℕ) (i : ℕ) (row : StateSet) (next : List ℕ)
    → now ≡ over out 0 (bytes_of (take i rows)) → next ≡ over now (32 * i) (set_bytes row.words)
    → i < length rows → row ≡ get_or rows i row → 32 * length rows ≤ length out → next ≡ over out 0 (bytes_of (take (i + 1) rows))
bytes_next out rows now i row next e f h is room =
    let long : length (bytes_of (take i rows)) ≡ 32 * i = length_bytes (take i rows) ∙ ap (λ (n : ℕ). 32 * n) (length-take-le i rows (omega arith)) in
    over_then out 0 (bytes_of (take i rows)) now (32 * i) (set_bytes row.words) next e f (omega (arith, long))
    (omega (arith, long, length_set row.words))
    ∙ rw (add-one, bytes_more rows i row h is) refl
