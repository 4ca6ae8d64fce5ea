-- The members of a state set after each operation, and that they determine it: a member is a bit of a word. From the laws of bits; used by all
-- code that keeps states in sets.
use Prim.Native.Nat.{ℕ, zero, suc, ◌+◌, ◌*◌, ◌/◌, ◌%◌, ◌^◌, ◌≤◌, ◌<◌, min, max, ◌-◌}
use mathlib.Core.Path.{◌≡◌, refl, sym, ap, ◌∙◌}
use mathlib.Core.List.{List, [], ◌∷◌, append-nil, Memᴰ}
use mathlib.Core.Bool.{Bool, true, false, cond, not, ◌&&◌, ◌||◌, xor, true≢false, false≢true, or_comm, or-true, or-false}
use mathlib.Core.Bool.{and_comm}
use native.Mathlib.Nat.{one-mul, zero-div, pow-suc}
use native.Mathlib.Numerals.{one-add, add-one}
use native.Mathlib.Omega.{arith}
use lib.ListN.{length, get_or, set, length-set, take}
use lib.Seq.{ext_get_or, take-suc, get_or-set_same, get_or-set_other}
use lib.Pointwise.{pointwise, bytes_decides}
use lib.Dec.{eqb, eqb-zero-suc, eqb-suc-zero, eqb-suc-suc, ltb}
use lib.Pow.{shl_exact, shr-shr, pow-lt}
use lib.Bits.{bit_and, bit_or, bit_xor, differ, and_shr, and_step, or_shr, or_step, xor_shr, xor_step, or_lt, xor_lt, and_lt}
use mir.Syntax.{w64}
use Rattle.std.proofs.lemmas.Nat.Bits.{bit_at_clear_same, bit_at_clear_other}
use borrow.Author.Tests.{eq-eqb, ne_eqb, eqb-true, eqb-false, ltb-true, ltb-false, lt-ltb, le-ltb}
use Rattle.lists.specs.Lists.{All, Rising, from, keep, any, among}
use Rattle.lists.proofs.Booleans.{and_true_out, same_bool, never_true, not_true_in, not_true_out}
use Rattle.lists.proofs.Elements.{all_member}
use Rattle.lists.proofs.Keeping.{keep_in, keep_out, keep_agree, keep_none, keep_append}
use Rattle.lists.proofs.Ranges.{from_append, from_rising, member_from, from_member, each_from}
use Rattle.lists.proofs.Rising.{rising_keep, rising_same}
use Rattle.lists.proofs.Search.{any_out, any_none, any_none_out, any_append, any_keep, any_same, among_in, among_out}
use Rattle.sets.specs.Set as sets
use Rattle.sets.specs.Set.{member, words, empty_set, replaced, with_state, without_state, union_of, meet_of, same_set}
use Rattle.sets.specs.declared.set.StateSet.{StateSet}
use Rattle.sets.specs.Inner.{with_all, set_of, states_in, Has, Below}

pub below_four : (P : ℕ → Type 0) → P 0 → P 1 → P 2 → P 3 → (i : ℕ) → i < 4 → P i
below_four P a b c d zero h = a
below_four P a b c d (suc zero) h = b
below_four P a b c d (suc (suc zero)) h = c
below_four P a b c d (suc (suc (suc zero))) h = d
below_four P a b c d (suc (suc (suc (suc i)))) h = absurd (omega arith)

-- Four words.

pub get_d_words : (f : ℕ → ℕ) (i : ℕ) → i < 4 → get_or (words f) i 0 ≡ f i
unfolding words
get_d_words f = below_four (λ (i : ℕ). get_or (words f) i 0 ≡ f i) refl refl refl refl

pub length_words : (f : ℕ → ℕ) → length (words f) ≡ 4
unfolding words
length_words f = refl

pub words_get_or : (ws : List ℕ) → length ws ≡ 4 → ws ≡ words (λ (i : ℕ). get_or ws i 0)
words_get_or ws e =
    ext_get_or 0 ws (words (λ (i : ℕ). get_or ws i 0)) (e ∙ sym (length_words _))
    (λ i h. sym (get_d_words (λ (j : ℕ). get_or ws j 0) i (omega arith)))

-- A word written over.
pub set_replaced : (ws : List ℕ) (i w : ℕ) → length ws ≡ 4 → i < 4 → set ws i w ≡ replaced ws i w
unfolding replaced
set_replaced ws i w four low =
    ext_get_or 0 (set ws i w) (words (λ (j : ℕ). cond (eqb j i) w (get_or ws j 0))) (length-set ws i w ∙ four ∙ sym (length_words _))
    (λ j h. let lj : j < 4 = omega (arith, length-set ws i w) in
    at j (eqb j i) refl ∙ sym (get_d_words (λ (k : ℕ). cond (eqb k i) w (get_or ws k 0)) j lj))
  where
    at : (j : ℕ) (t : Bool) → eqb j i ≡ t → get_or (set ws i w) j 0 ≡ cond (eqb j i) w (get_or ws j 0)
    at j true e = rw (e, eqb-true j i e) (get_or-set_same ws i w 0 (omega arith))
    at j false e = rw e (get_or-set_other ws i j w 0 (eqb-false j i e))

pub one_bit : (j : ℕ) → j < 64 → 1 * 2 ^ j % 18446744073709551616 ≡ 2 ^ j
one_bit j h = shl_exact 1 j 64 (omega arith) (omega arith) ∙ one-mul (2 ^ j)

-- Bits.

unfoldable pub bit : ℕ → ℕ → Bool
bit w k = eqb (w / 2 ^ k % 2) 1

last_bit : (w : ℕ) (t : Bool) → eqb ((w * 2 + cond t 1 0) % 2) 1 ≡ t
last_bit w true = eq-eqb ((w * 2 + 1) % 2) 1 (omega arith)
last_bit w false = ne_eqb ((w * 2 + 0) % 2) 1 (omega arith)

two_digits : (P : ℕ → ℕ → Type 0) → P 0 0 → P 0 1 → P 1 0 → P 1 1 → (x y : ℕ) → x < 2 → y < 2 → P x y
two_digits P a b c d zero zero hx hy = a
two_digits P a b c d zero (suc zero) hx hy = b
two_digits P a b c d (suc zero) zero hx hy = c
two_digits P a b c d (suc zero) (suc zero) hx hy = d
two_digits P a b c d zero (suc (suc y)) hx hy = absurd (omega arith)
two_digits P a b c d (suc zero) (suc (suc y)) hx hy = absurd (omega arith)
two_digits P a b c d (suc (suc x)) y hx hy = absurd (omega arith)

-- An operation on numbers that goes digit by digit.
bit_digitwise :
    (op f : ℕ → ℕ → ℕ) (g : Bool → Bool → Bool)
    → ((a b k : ℕ) → op a b / 2 ^ k ≡ op (a / 2 ^ k) (b / 2 ^ k))
    → ((a b : ℕ) → op a b ≡ op (a / 2) (b / 2) * 2 + f (a % 2) (b % 2))
    → ((x y : ℕ) → x < 2 → y < 2 → f x y ≡ cond (g (eqb x 1) (eqb y 1)) 1 0)
    → (a b k : ℕ) → bit (op a b) k ≡ g (bit a k) (bit b k)
unfolding bit
bit_digitwise op f g shifted stepped digit a b k =
    let x : ℕ = a / 2 ^ k in
    let y : ℕ = b / 2 ^ k in
    ap (λ (w : ℕ). eqb (w % 2) 1)
    (shifted a b k ∙ stepped x y
    ∙ ap (λ (d : ℕ). op (x / 2) (y / 2) * 2 + d) (digit (x % 2) (y % 2) (omega arith) (omega arith)))
    ∙ last_bit (op (x / 2) (y / 2)) (g (bit a k) (bit b k))

pub bit_or_lem : (a b k : ℕ) → bit (bit_or a b) k ≡ (bit a k || bit b k)
bit_or_lem =
    bit_digitwise bit_or max ◌||◌ or_shr or_step
    (two_digits (λ (x y : ℕ). max x y ≡ cond (eqb x 1 || eqb y 1) 1 0) refl refl refl refl)

pub bit_and_lem : (a b k : ℕ) → bit (bit_and a b) k ≡ (bit a k && bit b k)
bit_and_lem =
    bit_digitwise bit_and min ◌&&◌ and_shr and_step
    (two_digits (λ (x y : ℕ). min x y ≡ cond (eqb x 1 && eqb y 1) 1 0) refl refl refl refl)

bit_xor_lem : (a b k : ℕ) → bit (bit_xor a b) k ≡ xor (bit a k) (bit b k)
unfolding xor
bit_xor_lem =
    bit_digitwise bit_xor differ xor xor_shr xor_step
    (two_digits (λ (x y : ℕ). differ x y ≡ cond (xor (eqb x 1) (eqb y 1)) 1 0) refl refl refl refl)

pub bit_zero : (k : ℕ) → bit 0 k ≡ false
unfolding bit
bit_zero k = ap (λ (w : ℕ). eqb (w % 2) 1) (zero-div (2 ^ k))

pub bit_suc : (w k : ℕ) → bit w (suc k) ≡ bit (w / 2) k
unfolding bit
bit_suc w k = ap (λ (v : ℕ). eqb (v % 2) 1) (ap (λ (j : ℕ). w / 2 ^ j) (sym (one-add k)) ∙ sym (shr-shr w 1 k))

bit_power : (j k : ℕ) → bit (2 ^ j) k ≡ eqb k j
unfolding bit
bit_power zero zero = refl
bit_power zero (suc k) = bit_suc 1 k ∙ bit_zero k ∙ sym (eqb-suc-zero k)
bit_power (suc j) zero = ne_eqb (2 ^ suc j / 2 ^ 0 % 2) 1 (omega (arith, pow-suc 2 j)) ∙ sym (eqb-zero-suc j)
bit_power (suc j) (suc k) =
    bit_suc (2 ^ suc j) k ∙ ap (λ (w : ℕ). bit w k) (omega (arith, pow-suc 2 j)) ∙ bit_power j k ∙ sym (eqb-suc-suc k j)

same_digit : (x y : ℕ) → x < 2 → y < 2 → eqb x 1 ≡ eqb y 1 → x ≡ y
same_digit =
    two_digits (λ (x y : ℕ). eqb x 1 ≡ eqb y 1 → x ≡ y) (λ e. refl) (λ e. absurd (false≢true e))
    (λ e. absurd (true≢false e)) (λ e. refl)

same_bits : (n a b : ℕ) → a < 2 ^ n → b < 2 ^ n → ((k : ℕ) → k < n → bit a k ≡ bit b k) → a ≡ b
unfolding bit
same_bits zero a b ha hb same = omega arith
same_bits (suc n) a b ha hb same =
    let twice : 2 ^ suc n ≡ 2 ^ n * 2 = pow-suc 2 n in
    let later : (k : ℕ) → k < n → bit (a / 2) k ≡ bit (b / 2) k =
    λ k h. sym (bit_suc a k) ∙ same (suc k) (omega arith) ∙ bit_suc b k in
    let halves : a / 2 ≡ b / 2 = same_bits n (a / 2) (b / 2) (omega arith) (omega arith) later in
    let lasts : a / 2 ^ 0 % 2 ≡ b / 2 ^ 0 % 2 = same_digit _ _ (omega arith) (omega arith) (same 0 (omega arith)) in
    omega arith

-- Members.

pub same_test : (a b c d : ℕ) → (a ≡ b → c ≡ d) → (c ≡ d → a ≡ b) → eqb a b ≡ eqb c d
same_test a b c d f g = same_bool (λ e. eq-eqb c d (f (eqb-true a b e))) (λ e. eq-eqb a b (g (eqb-true c d e)))

pub member_words : (f : ℕ → ℕ) (r : ℕ) → r < 256 → member (words f) r ≡ bit (f (r / 64)) (r % 64)
unfolding member bit
member_words f r h = ap (λ (w : ℕ). bit w (r % 64)) (get_d_words f (r / 64) (omega arith))

-- A change of state q's word that changes no bit of it but q's.
member_changed :
    (g : ℕ → ℕ) (h : Bool → Bool → Bool) (ws : List ℕ) (q r : ℕ) → r < 256
    → ((w k : ℕ) → bit (g w) k ≡ h (eqb k (q % 64)) (bit w k)) → ((b : Bool) → h false b ≡ b)
    → member (replaced ws (q / 64) (g (get_or ws (q / 64) 0))) r ≡ h (eqb r q) (member ws r)
unfolding member bit replaced
member_changed g h ws q r lt changed kept = member_words _ r lt ∙ go (eqb (r / 64) (q / 64)) refl
  where
    go : (t : Bool) → eqb (r / 64) (q / 64) ≡ t
        → bit (cond t (g (get_or ws (q / 64) 0)) (get_or ws (r / 64) 0)) (r % 64) ≡ h (eqb r q) (member ws r)
    go true e =
        let same : r / 64 ≡ q / 64 = eqb-true (r / 64) (q / 64) e in
        cc (changed (get_or ws (q / 64) 0) (r % 64), same_test (r % 64) (q % 64) r q (omega arith) (omega arith))
    go false e =
        let other : r / 64 ≡ q / 64 → ⊥ = eqb-false (r / 64) (q / 64) e in
        rw (ne_eqb r q (omega arith), kept)

pub member_empty : (r : ℕ) → r < 256 → member empty_set r ≡ false
unfolding empty_set
member_empty r h = member_words (λ (i : ℕ). 0) r h ∙ bit_zero (r % 64)

pub member_with : (ws : List ℕ) (q r : ℕ) → r < 256 → member (with_state ws q) r ≡ (eqb r q || member ws r)
unfolding with_state
member_with ws q r h =
    member_changed (λ (w : ℕ). bit_or w (2 ^ (q % 64))) ◌||◌ ws q r h
    (λ w k. rw (bit_or_lem, bit_power) (or_comm (bit w k) (eqb k (q % 64)))) (λ b. refl)

set_then_flipped : (a b : Bool) → xor (a || b) b ≡ (not b && a)
unfolding xor
set_then_flipped true true = refl
set_then_flipped true false = refl
set_then_flipped false true = refl
set_then_flipped false false = refl

pub member_without : (ws : List ℕ) (q r : ℕ) → r < 256 → member (without_state ws q) r ≡ (not (eqb r q) && member ws r)
unfolding without_state
member_without ws q r h =
    member_changed (λ (w : ℕ). bit_xor (bit_or w (2 ^ (q % 64))) (2 ^ (q % 64))) (λ (t b : Bool). not t && b) ws q r h
    (λ w k. rw (bit_xor_lem, bit_or_lem, bit_power) (set_then_flipped (bit w k) (eqb k (q % 64)))) (λ b. refl)

-- A bit that is cleared by a mask, as the code does it.
pub masked : (w k : ℕ) → w < 2 ^ 64 → k < 64
    → bit_and w (18446744073709551615 - 1 * 2 ^ k % 18446744073709551616) ≡ bit_xor (bit_or w (2 ^ k)) (2 ^ k)
unfolding bit
masked w k small low =
    same_bits 64 _ _ (and_lt 64 _ _ small (omega arith))
    (xor_lt 64 _ _ (or_lt 64 _ _ small (pow-lt {i = k} {j = 64} low)) (pow-lt {i = k} {j = 64} low))
    (λ i h. cleared i h (eqb i k) refl
    ∙ sym (rw (bit_xor_lem, bit_or_lem, bit_power) (set_then_flipped (bit w i) (eqb i k))))
  where
    cleared : (i : ℕ) → i < 64 → (t : Bool) → eqb i k ≡ t
        → bit (bit_and w (18446744073709551615 - 1 * 2 ^ k % 18446744073709551616)) i ≡ (not (eqb i k) && bit w i)
    cleared i h true e = rw (e, eqb-true i k e) (ap (λ (v : ℕ). eqb v 1) (bit_at_clear_same w64 w k low))
    cleared i h false e = rw e (ap (λ (v : ℕ). eqb v 1) (bit_at_clear_other w64 w k low i h (eqb-false i k e)))

pub member_union : (ws vs : List ℕ) (r : ℕ) → r < 256 → member (union_of ws vs) r ≡ (member ws r || member vs r)
unfolding union_of member bit
member_union ws vs r h = member_words _ r h ∙ bit_or_lem _ _ (r % 64)

pub member_meet : (ws vs : List ℕ) (r : ℕ) → r < 256 → member (meet_of ws vs) r ≡ (member ws r && member vs r)
unfolding meet_of member bit
member_meet ws vs r h = member_words _ r h ∙ bit_and_lem _ _ (r % 64)

-- Sets of lists.

or_rotate : (a b c : Bool) → (a || (b || c)) ≡ ((b || a) || c)
or_rotate a true c = or-true a
or_rotate a false c = refl

or_last : (a b c : Bool) → (a || (b || c)) ≡ (b || (c || a))
or_last true b c = sym (ap (λ (t : Bool). b || t) (or-true c) ∙ or-true b)
or_last false b c = ap (λ (t : Bool). b || t) (sym (or-false c))

pub member_with_all : (ws qs : List ℕ) (r : ℕ) → r < 256 → member (with_all ws qs) r ≡ (among qs r || member ws r)
unfolding with_all among any
member_with_all ws [] r h = refl
member_with_all ws (q ∷ qs) r h =
    member_with_all (with_state ws q) qs r h
    ∙ ap (λ (t : Bool). among qs r || t) (member_with ws q r h ∙ ap (λ (t : Bool). t || member ws r) (same_test r q q r sym sym))
    ∙ or_rotate (among qs r) (eqb q r) (member ws r)

pub member_set_of : (qs : List ℕ) (r : ℕ) → r < 256 → member (set_of qs) r ≡ among qs r
unfolding set_of
member_set_of qs r h =
    member_with_all empty_set qs r h ∙ ap (λ (t : Bool). among qs r || t) (member_empty r h) ∙ or-false (among qs r)

length_with_all : (ws qs : List ℕ) → length ws ≡ 4 → length (with_all ws qs) ≡ 4
unfolding with_all with_state replaced
length_with_all ws [] e = e
length_with_all ws (q ∷ qs) e = length_with_all (with_state ws q) qs (length_words _)

pub length_set_of : (qs : List ℕ) → length (set_of qs) ≡ 4
unfolding set_of empty_set
length_set_of qs = length_with_all empty_set qs (length_words _)

pub states_of_set : (qs : List ℕ) (n : ℕ) → n ≤ 256 → All (λ (q : ℕ). q < n) qs → Rising qs
    → keep (member (set_of qs)) (from 0 n) ≡ qs
states_of_set qs n h highs rise =
    rising_same _ qs (rising_keep (member (set_of qs)) (from_rising 0 n)) rise
    (λ q m.
    let k = keep_out (member (set_of qs)) (from 0 n) m in
    let b = member_from n 0 q k.0 in
    among_out qs q (sym (member_set_of qs q (omega arith)) ∙ k.1))
    (λ q m.
    let b = all_member highs m in
    keep_in (member (set_of qs)) (from_member n 0 q (omega arith) (omega arith)) (member_set_of qs q (omega arith) ∙ among_in m))

-- Sets with the same members.

pub same_members : (ws vs : List ℕ) → length ws ≡ 4 → length vs ≡ 4 → ((i : ℕ) → get_or ws i 0 < 2 ^ 64)
    → ((i : ℕ) → get_or vs i 0 < 2 ^ 64) → ((r : ℕ) → r < 256 → member ws r ≡ member vs r) → ws ≡ vs
unfolding member bit
same_members ws vs lw lv bw bv same =
    ext_get_or 0 ws vs (lw ∙ sym lv)
    (λ i h. same_bits 64 (get_or ws i 0) (get_or vs i 0) (bw i) (bv i)
    (λ k l.
    let word : (i * 64 + k) / 64 ≡ i = omega arith in
    let place : (i * 64 + k) % 64 ≡ k = omega arith in
    rw (word, place) at (same (i * 64 + k) (omega arith))))

pub same_set_in : (ws : List ℕ) → same_set ws ws ≡ true
unfolding same_set
same_set_in ws = rw (same 0, same 1, same 2, same 3)
  where
    same : (i : ℕ) → eqb (get_or ws i 0) (get_or ws i 0) ≡ true
    same i = eq-eqb (get_or ws i 0) (get_or ws i 0) refl

pub same_set_out : (ws vs : List ℕ) → length ws ≡ 4 → length vs ≡ 4 → same_set ws vs ≡ true → ws ≡ vs
unfolding same_set
same_set_out ws vs lw lv e =
    let (a, s) = and_true_out (same 0) (same 1 && (same 2 && same 3)) e in
    let (b, t) = and_true_out (same 1) (same 2 && same 3) s in
    let (c, d) = and_true_out (same 2) (same 3) t in
    ext_get_or 0 ws vs (lw ∙ sym lv)
    (λ i h. eqb-true (get_or ws i 0) (get_or vs i 0) (below_four (λ (j : ℕ). same j ≡ true) a b c d i (omega arith)))
  where
    same : ℕ → Bool
    same i = eqb (get_or ws i 0) (get_or vs i 0)

-- What the code's `==` answers at two sets.
pub same_pairs : (a b : StateSet) → pointwise eqb a.words b.words ≡ same_set a.words b.words
same_pairs a b =
    same_bool
    (λ e. ap (λ (l : List ℕ). same_set l b.words) ((bytes_decides a.words b.words).0 e) ∙ same_set_in b.words)
    (λ e. (bytes_decides a.words b.words).1 (same_set_out a.words b.words a.four b.four e))

-- The states of a set that has those below n that pass a test.
pub states_below : (test : ℕ → Bool) (low : List ℕ) (n : ℕ) → n ≤ 256 → Has low (λ (r : ℕ). ltb r n && test r)
    → states_in 256 low ≡ keep test (from 0 n)
unfolding states_in
states_below test low n h has =
    let split : 256 ≡ n + (256 - n) = omega arith in
    let front : keep (member low) (from 0 n) ≡ keep test (from 0 n) =
    keep_agree _ _ (from 0 n) (each_from _ 0 n (λ r a b. has r (omega arith) ∙ rw (lt-ltb r n (omega arith)))) in
    let rest : keep (member low) (from (0 + n) (256 - n)) ≡ [] =
    keep_none _ (from (0 + n) (256 - n)) (each_from _ (0 + n) (256 - n) (λ r a b. has r (omega arith) ∙ rw (le-ltb r n (omega arith)))) in
    ap (λ (m : ℕ). keep (member low) (from 0 m)) split
    ∙ rw (from_append, keep_append, front, rest) (append-nil (keep test (from 0 n)))

-- A set without states from n on has those below n; such a set is one of listed states below n, and one whose states are all below n.
pub states_under : (n : ℕ) (set : List ℕ) → n ≤ 256 → Below n set → states_in 256 set ≡ states_in n set
unfolding states_in Below
states_under n set h under = states_below (member set) set n h (λ r b. go r b (ltb r n) refl)
  where
    go : (r : ℕ) → r < 256 → (t : Bool) → ltb r n ≡ t → member set r ≡ (t && member set r)
    go r b true e = refl
    go r b false e = under r (ltb-false r n e) b

pub listed_under : (n : ℕ) (qs : List ℕ) → All (λ (q : ℕ). q < n) qs → Below n (set_of qs)
unfolding Below among
listed_under n qs lows r high b =
    member_set_of qs r b ∙ any_none (λ (q : ℕ). eqb q r) qs (λ q m. let low = all_member lows m in ne_eqb q r (λ e. omega arith))

-- Words below 2 ^ 64, as the code's are.

abbrev pub Bounded : List ℕ → Type 0
Bounded ws = (i : ℕ) → get_or ws i 0 < 2 ^ 64

pub bounded_words : (f : ℕ → ℕ) → ((i : ℕ) → f i < 2 ^ 64) → Bounded (sets.words f)
unfolding sets.words
bounded_words f h zero = h 0
bounded_words f h (suc zero) = h 1
bounded_words f h (suc (suc zero)) = h 2
bounded_words f h (suc (suc (suc zero))) = h 3
bounded_words f h (suc (suc (suc (suc i)))) = omega arith

pub bounded_put : (ws : List ℕ) (i w : ℕ) → Bounded ws → w < 2 ^ 64 → Bounded (set ws i w)
bounded_put [] i w b h = b
bounded_put (v ∷ vs) zero w b h = elim [ zero ↦ h | suc j ↦ b (suc j) ]
bounded_put (v ∷ vs) (suc i) w b h = elim [ zero ↦ b 0 | suc j ↦ bounded_put vs i w (λ k. b (suc k)) h j ]

bounded_with : (ws : List ℕ) (q : ℕ) → Bounded ws → Bounded (with_state ws q)
unfolding with_state replaced
bounded_with ws q b = bounded_words _ (λ i. go i (eqb i (q / 64)))
  where
    go : (i : ℕ) (t : Bool) → cond t (bit_or (get_or ws (q / 64) 0) (2 ^ (q % 64))) (get_or ws i 0) < 2 ^ 64
    go i true = or_lt 64 (get_or ws (q / 64) 0) (2 ^ (q % 64)) (b (q / 64)) (pow-lt {i = q % 64} {j = 64} (omega arith))
    go i false = b i

bounded_with_all : (ws qs : List ℕ) → Bounded ws → Bounded (with_all ws qs)
unfolding with_all
bounded_with_all ws [] b = b
bounded_with_all ws (q ∷ qs) b = bounded_with_all (with_state ws q) qs (bounded_with ws q b)

pub bounded_set_of : (qs : List ℕ) → Bounded (set_of qs)
unfolding set_of empty_set
bounded_set_of qs = bounded_with_all empty_set qs (bounded_words _ (λ i. omega arith))

-- Sets that differ have other members, for their words are below 2 ^ 64.
pub sets_differ : (ws vs : List ℕ) → length ws ≡ 4 → length vs ≡ 4 → Bounded ws → Bounded vs → same_set ws vs ≡ false
    → Has ws (member vs) → ⊥
sets_differ ws vs lw lv bw bv other same =
    true≢false (sym (same_set_in vs) ∙ ap (λ (l : List ℕ). same_set l vs) (sym (same_members ws vs lw lv bw bv same)) ∙ other)

-- One state more of those below a bound.
pub ltb_more : (r q : ℕ) → (r ≡ q → ⊥) → ltb r (q + 1) ≡ ltb r q
ltb_more r q other =
    same_bool (λ e. lt-ltb r q (omega (arith, ltb-true r (q + 1) e))) (λ e. lt-ltb r (q + 1) (omega (arith, ltb-true r q e)))

pub none_below : (r : ℕ) → r < 256 → member empty_set r ≡ ltb r 0
none_below r h = member_empty r h ∙ sym (le-ltb r 0 (omega arith))

pub below_more : (set : List ℕ) (q : ℕ) → Has set (λ (r : ℕ). ltb r q) → Has (with_state set q) (λ (r : ℕ). ltb r (q + 1))
below_more set q has r b = member_with set q r b ∙ go (eqb r q) refl
  where
    go : (t : Bool) → eqb r q ≡ t → (t || member set r) ≡ ltb r (q + 1)
    go true e = let same = eqb-true r q e in sym (lt-ltb r (q + 1) (omega arith))
    go false e = has r b ∙ sym (ltb_more r q (eqb-false r q e))

-- What holds of each state of a set, and of one more.
pub with_each : (P : ℕ → Type 0) (set : List ℕ) (q : ℕ) → ((r : ℕ) → r < 256 → member set r ≡ true → P r) → P q
    → (r : ℕ) → r < 256 → member (with_state set q) r ≡ true → P r
with_each P set q each p r h is = go (eqb r q) refl (sym (member_with set q r h) ∙ is)
  where
    go : (t : Bool) → eqb r q ≡ t → (t || member set r) ≡ true → P r
    go true e is = rw (eqb-true r q e) p
    go false e is = each r h is

-- A set that is not empty has a state.
pub some_state : (set : List ℕ) → length set ≡ 4 → Bounded set → not (same_set set empty_set) ≡ any (member set) (from 0 256)
unfolding empty_set words set_of with_all
some_state set four bounded = same_bool (has_one (any (member set) (from 0 256)) refl) not_empty
  where
    has_one : (t : Bool) → any (member set) (from 0 256) ≡ t → not (same_set set empty_set) ≡ true → any (member set) (from 0 256) ≡ true
    has_one true e h = e
    has_one false e h =
        absurd (sets_differ set empty_set four refl bounded (bounded_set_of []) (never_true (not_true_out h))
        (λ q low. any_none_out (member set) e q (from_member 256 0 q (omega arith) (omega arith)) ∙ sym (member_empty q low)))

    not_empty : any (member set) (from 0 256) ≡ true → not (same_set set empty_set) ≡ true
    not_empty e =
        let f = any_out (member set) (from 0 256) e in
        let low : f.element < 256 = omega (arith, (member_from 256 0 f.element f.member).1) in
        not_true_in (λ h. true≢false (sym f.passes
        ∙ ap (λ (ws : List ℕ). member ws f.element) (same_set_out set empty_set four refl h) ∙ member_empty f.element low))

-- One state more of a list whose states are added to a set.
pub with_more : (set first qs : List ℕ) (i : ℕ) → i < length qs → Has set (λ (r : ℕ). member first r || among (take i qs) r)
    → Has (with_state set (get_or qs i 0)) (λ (r : ℕ). member first r || among (take (i + 1) qs) r)
unfolding among any
with_more set first qs i h has r b =
    let q = get_or qs i 0 in
    member_with set q r b ∙ rw (has r b, add-one, take-suc qs i 0 h, any_append) (placed (eqb r q) (eqb q r) (same_test r q q r sym sym))
  where
    placed : (s t : Bool) → s ≡ t → (s || (member first r || any (λ (p : ℕ). eqb p r) (take i qs)))
        ≡ (member first r || (any (λ (p : ℕ). eqb p r) (take i qs) || (t || false)))
    placed s t e = rw (e, or-false) (or_last t (member first r) (any (λ (p : ℕ). eqb p r) (take i qs)))

-- Two sets have a common state exactly if their meet is not empty.
pub common_state : (set other : List ℕ) → Bounded (meet_of set other)
    → not (same_set (meet_of set other) empty_set) ≡ any (member set) (keep (member other) (from 0 256))
unfolding meet_of words
common_state set other bounded =
    some_state (meet_of set other) refl bounded
    ∙ any_same _ _ 0 256 (λ q a b. member_meet set other q (omega arith) ∙ and_comm (member set q) (member other q))
    ∙ sym (any_keep (member set) (member other) (from 0 256))

-- The states below n.
pub states_low : (n : ℕ) (set : List ℕ) (q : ℕ) → Memᴰ q (states_in n set) → q < n
unfolding states_in
states_low n set q m = let b = member_from n 0 q (keep_out (member set) (from 0 n) m).0 in omega arith
