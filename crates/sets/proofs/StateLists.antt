-- The states of a set in order: how many there are, the lowest of them by the lowest bit of a word, and what is left once it is cleared. From the
-- laws of bits; for `len`, the iterator over a set, and loops over its states.
use Prim.Native.Nat.{ℕ, zero, suc, ◌+◌, ◌-◌, ◌*◌, ◌/◌, ◌%◌, ◌^◌, ◌≤◌, ◌<◌}
use native.Mathlib.Nat.{add-zero, zero-add, pow-suc}
use native.Mathlib.Numerals.{add-one}
use native.Mathlib.Omega.{arith}
use native.Mathlib.Decide.{dec_lt}
use mathlib.Core.Path.{◌≡◌, refl, sym, ap, ◌∙◌}
use mathlib.Core.List.{List, [], ◌∷◌}
use mathlib.Core.Bool.{Bool, true, false, cond, not, ◌&&◌, and-false}
use lib.ListN.{length, get_or, length-append}
use lib.Dec.{eqb, eqb-suc-zero, eqb-suc-suc}
use lib.Pow.{shr_lt}
use lib.Bits.{bit_and}
use lib.Count.{ones, ones_step, count_trailing_zeros, under}
use borrow.Author.Tests.{eq-eqb, ne_eqb, eqb-true, eqb-false}
use Rattle.std.specs.List.{sum_by}
use Rattle.lists.specs.Lists.{from, keep}
use Rattle.lists.proofs.Keeping.{keep_none, keep_append, keep_agree}
use Rattle.lists.proofs.Ranges.{from_append, each_from}
use Rattle.sets.specs.Set.{member, words, replaced}
use Rattle.sets.specs.Inner.{states_in, states_from}
use Rattle.sets.proofs.StateSets.{bit, bit_suc, bit_zero, bit_and_lem, get_d_words, words_get_or, member_words}

-- A state is a bit of its word.
pub member_bit : (ws : List ℕ) (w s : ℕ) → s < 64 → member ws (64 * w + s) ≡ bit (get_or ws w 0) s
unfolding member bit
member_bit ws w s h =
    let word : (64 * w + s) / 64 ≡ w = omega arith in
    let place : (64 * w + s) % 64 ≡ s = omega arith in
    rw (word, place) refl

-- Bits that are set, counted.

digit : (t : Bool) (x : ℕ) → x < 2 → eqb x 1 ≡ t → x ≡ cond t 1 0
digit true x h e = eqb-true x 1 e
digit false x h e = let other : x ≡ 1 → ⊥ = eqb-false x 1 e in omega arith

pub ones_bits : (test : ℕ → Bool) (n r x : ℕ) → x < 2 ^ n → ((k : ℕ) → k < n → bit x k ≡ test (r + k))
    → ones x ≡ length (keep test (from r n))
unfolding keep from bit ones
ones_bits test zero r x h same = let none : x ≡ 0 = omega arith in rw none
ones_bits test (suc n) r x h same =
    ones_step x ∙ go (test r) (digit (test r) (x / 2 ^ 0 % 2) (omega arith) (same 0 (omega arith) ∙ ap test (add-zero r)))
    (ones_bits test n (suc r) (x / 2) (shr_lt n 1 (rw (add-one) h))
    (λ k l. sym (bit_suc x k) ∙ same (suc k) (omega arith) ∙ ap test (omega arith)))
  where
    go : (t : Bool) → x / 2 ^ 0 % 2 ≡ cond t 1 0 → ones (x / 2) ≡ length (keep test (from (suc r) n))
        → x % 2 + ones (x / 2) ≡ length (cond t (r ∷ keep test (from (suc r) n)) (keep test (from (suc r) n)))
    go true d later = omega arith
    go false d later = omega arith

-- The states of one word more.
ones_word : (ws : List ℕ) (w : ℕ) → get_or ws w 0 < 2 ^ 64
    → length (keep (member ws) (from 0 (64 * (w + 1)))) ≡ length (keep (member ws) (from 0 (64 * w))) + ones (get_or ws w 0)
ones_word ws w small =
    let more : 64 * (w + 1) ≡ 64 * w + 64 = omega arith in
    rw (more, from_append, keep_append, length-append, zero-add)
    (ap (λ (n : ℕ). length (keep (member ws) (from 0 (64 * w))) + n)
    (sym (ones_bits (member ws) 64 (64 * w) (get_or ws w 0) small (λ k l. sym (member_bit ws w k l)))))

-- The bits of four words are the states of their set.
pub ones_set : (ws : List ℕ) → length ws ≡ 4 → ((i : ℕ) → get_or ws i 0 < 2 ^ 64) → sum_by ones ws ≡ length (states_in 256 ws)
unfolding states_in keep from
ones_set (a ∷ b ∷ c ∷ d ∷ []) four bits =
    let ws = a ∷ b ∷ c ∷ d ∷ [] in
    omega (arith, ones_word ws 0 (bits 0), ones_word ws 1 (bits 1), ones_word ws 2 (bits 2), ones_word ws 3 (bits 3))
ones_set [] four bits = absurd (omega arith)
ones_set (a ∷ []) four bits = absurd (omega arith)
ones_set (a ∷ b ∷ []) four bits = absurd (omega arith)
ones_set (a ∷ b ∷ c ∷ []) four bits = absurd (omega arith)
ones_set (a ∷ b ∷ c ∷ d ∷ e ∷ ws) four bits = absurd (omega arith)

-- The lowest bit that is set, the zeros below it, and the number without it.

-- The first number below d that passes a test.
pub record First (test : ℕ → Bool) (d t : ℕ) : Type 0 where
  pub within : t < d
  pub is : test t ≡ true
  pub before : (s : ℕ) → s < t → test s ≡ false

lowest_odd : (n d : ℕ) → n % 2 ≡ 1 → First (bit n) (suc d) 0
unfolding bit
lowest_odd n d e = record {
  within = omega arith;
  is = eq-eqb (n / 2 ^ 0 % 2) 1 (omega arith);
  before = λ s l. absurd (omega arith);
}

lowest_even : (n d t : ℕ) → n % 2 ≡ 0 → First (bit (n / 2)) d t → First (bit n) (suc d) (suc t)
unfolding bit
lowest_even n d t e later = record {
  within = omega arith;
  is = bit_suc n t ∙ later.is;
  before = elim [
    | zero ↦ λ l. ne_eqb (n / 2 ^ 0 % 2) 1 (omega arith)
    | suc s ↦ λ l. bit_suc n s ∙ later.before s (omega arith)
  ];
}

pub lowest : (k d n : ℕ) → d ≤ k → n < 2 ^ d → (n ≡ 0 → ⊥) → First (bit n) d (count_trailing_zeros k n)
unfolding count_trailing_zeros
lowest zero zero n h l some = absurd (some (omega arith))
lowest zero (suc d) n h l some = absurd (omega arith)
lowest (suc k) zero n h l some = absurd (some (omega arith))
lowest (suc k) (suc d) n h l some = go (n % 2) refl (λ e. lowest k d (n / 2) (omega arith) (omega (arith, pow-suc 2 d)) (omega arith))
  where
    go : (b : ℕ) → n % 2 ≡ b → (n % 2 ≡ 0 → First (bit (n / 2)) d (count_trailing_zeros k (n / 2)))
        → First (bit n) (suc d) (under b (count_trailing_zeros k (n / 2)))
    go zero e later = lowest_even n d _ e (later e)
    go (suc b) e later = lowest_odd n d (omega arith)

both : (b : Bool) → (b && b) ≡ b
both true = refl
both false = refl

-- The bits of a number without its lowest one.

cleared_odd : (n s : ℕ) → n % 2 ≡ 1 → bit (bit_and n (n - 1)) s ≡ (not (eqb s 0) && bit n s)
unfolding bit
cleared_odd n zero e =
    bit_and_lem n (n - 1) 0 ∙ ap (λ (b : Bool). bit n 0 && b) (ne_eqb ((n - 1) / 2 ^ 0 % 2) 1 (omega arith)) ∙ and-false (bit n 0)
cleared_odd n (suc s) e =
    let half : (n - 1) / 2 ≡ n / 2 = omega arith in
    bit_and_lem n (n - 1) (suc s) ∙ rw (bit_suc n s, bit_suc (n - 1) s, half, eqb-suc-zero) (both (bit (n / 2) s))

cleared_even : (n t : ℕ) → n % 2 ≡ 0 → (n ≡ 0 → ⊥)
    → ((s : ℕ) → bit (bit_and (n / 2) (n / 2 - 1)) s ≡ (not (eqb s t) && bit (n / 2) s))
    → (s : ℕ) → bit (bit_and n (n - 1)) s ≡ (not (eqb s (suc t)) && bit n s)
unfolding bit
cleared_even n t e some later zero =
    let even : bit n 0 ≡ false = ne_eqb (n / 2 ^ 0 % 2) 1 (omega arith) in
    bit_and_lem n (n - 1) 0 ∙ ap (λ (b : Bool). b && bit (n - 1) 0) even ∙ sym (ap (λ (b : Bool). not (eqb 0 (suc t)) && b) even ∙ and-false (not (eqb 0 (suc t))))
cleared_even n t e some later (suc s) =
    let half : (n - 1) / 2 ≡ n / 2 - 1 = omega arith in
    bit_and_lem n (n - 1) (suc s)
    ∙ rw (bit_suc n s, bit_suc (n - 1) s, half, eqb-suc-suc) (sym (bit_and_lem (n / 2) (n / 2 - 1) s) ∙ later s)

cleared : (k n : ℕ) → n < 2 ^ k → (n ≡ 0 → ⊥) → (s : ℕ)
    → bit (bit_and n (n - 1)) s ≡ (not (eqb s (count_trailing_zeros k n)) && bit n s)
unfolding count_trailing_zeros
cleared zero n small some s = absurd (some (omega arith))
cleared (suc k) n small some s = go (n % 2) refl (λ e. cleared k (n / 2) (omega (arith, pow-suc 2 k)) (omega arith))
  where
    go : (b : ℕ) → n % 2 ≡ b
        → (n % 2 ≡ 0 → (r : ℕ) → bit (bit_and (n / 2) (n / 2 - 1)) r ≡ (not (eqb r (count_trailing_zeros k (n / 2))) && bit (n / 2) r))
        → bit (bit_and n (n - 1)) s ≡ (not (eqb s (under b (count_trailing_zeros k (n / 2)))) && bit n s)
    go zero e later = cleared_even n _ e some (later e) s
    go (suc b) e later = cleared_odd n s (omega arith)

-- The states from a word on.

member_rest : (ws : List ℕ) (w rest s : ℕ) → w < 4 → s < 64 → member (replaced ws w rest) (64 * w + s) ≡ bit rest s
unfolding replaced
member_rest ws w rest s h l =
    member_bit (replaced ws w rest) w s l
    ∙ ap (λ (v : ℕ). bit v s) (get_d_words (λ (j : ℕ). cond (eqb j w) rest (get_or ws j 0)) w h
    ∙ ap (λ (t : Bool). cond t rest (get_or ws w 0)) (eq-eqb w w refl))

member_behind : (ws : List ℕ) (w rest r : ℕ) → r < 256 → 64 * w + 64 ≤ r → member (replaced ws w rest) r ≡ bit (get_or ws (r / 64) 0) (r % 64)
unfolding replaced
member_behind ws w rest r h l =
    member_words (λ (j : ℕ). cond (eqb j w) rest (get_or ws j 0)) r h
    ∙ ap (λ (t : Bool). bit (cond t rest (get_or ws (r / 64) 0)) (r % 64)) (ne_eqb (r / 64) w (omega arith))

-- From the next word on.
member_next : (ws : List ℕ) (w r : ℕ) → r < 256 → 64 * w ≤ r → member (replaced ws w (get_or ws w 0)) r ≡ bit (get_or ws (r / 64) 0) (r % 64)
unfolding replaced
member_next ws w r h l =
    member_words (λ (j : ℕ). cond (eqb j w) (get_or ws w 0) (get_or ws j 0)) r h
    ∙ ap (λ (v : ℕ). bit v (r % 64)) (go (eqb (r / 64) w) refl)
  where
    go : (t : Bool) → eqb (r / 64) w ≡ t → cond t (get_or ws w 0) (get_or ws (r / 64) 0) ≡ get_or ws (r / 64) 0
    go true e = ap (λ (i : ℕ). get_or ws i 0) (sym (eqb-true (r / 64) w e))
    go false e = refl

none_left : (ws : List ℕ) (w : ℕ) → w < 4 → keep (member (replaced ws w 0)) (from (64 * w) 64) ≡ []
none_left ws w h =
    keep_none _ (from (64 * w) 64) (each_from _ (64 * w) 64
    (λ r a b. let place : 64 * w + (r - 64 * w) ≡ r = omega arith in
    ap (member (replaced ws w 0)) (sym place) ∙ member_rest ws w 0 (r - 64 * w) h (omega arith) ∙ bit_zero (r - 64 * w)))

pub states_whole : (ws : List ℕ) → length ws ≡ 4 → states_from ws 0 (get_or ws 0 0) ≡ states_in 256 ws
unfolding states_from states_in replaced words
states_whole ws four = ap (λ (l : List ℕ). keep (member l) (from 0 256)) (sym (words_get_or ws four))

pub states_end : (ws : List ℕ) (w : ℕ) → w < 4 → 3 ≤ w → states_from ws w 0 ≡ []
unfolding states_from
states_end ws w h l =
    let last : 256 - 64 * w ≡ 64 = omega arith in
    rw last (none_left ws w h)

pub states_pass : (ws : List ℕ) (w : ℕ) → w < 3 → states_from ws w 0 ≡ states_from ws (w + 1) (get_or ws (w + 1) 0)
unfolding states_from
states_pass ws w h =
    let split : 256 - 64 * w ≡ 64 + (256 - 64 * (w + 1)) = omega arith in
    let next : 64 * w + 64 ≡ 64 * (w + 1) = omega arith in
    let later : keep (member (replaced ws w 0)) (from (64 * (w + 1)) (256 - 64 * (w + 1)))
    ≡ keep (member (replaced ws (w + 1) (get_or ws (w + 1) 0))) (from (64 * (w + 1)) (256 - 64 * (w + 1))) =
    keep_agree _ _ (from (64 * (w + 1)) (256 - 64 * (w + 1))) (each_from _ (64 * (w + 1)) (256 - 64 * (w + 1))
    (λ r a b. member_behind ws w 0 r (omega arith) (omega arith) ∙ sym (member_next ws (w + 1) r (omega arith) a))) in
    rw (split, from_append, keep_append, none_left ws w (omega arith), next) later

-- A range up to its first element that passes.
none_before : (test : ℕ → Bool) (i t : ℕ) → ((s : ℕ) → s < t → test (i + s) ≡ false) → keep test (from i t) ≡ []
none_before test i t before =
    keep_none test (from i t) (each_from _ i t (λ r a b. let place : i + (r - i) ≡ r = omega arith in
    ap test (sym place) ∙ before (r - i) (omega arith)))

first_in : (test : ℕ → Bool) (i t m : ℕ) → ((s : ℕ) → s < t → test (i + s) ≡ false) → test (i + t) ≡ true
    → keep test (from i (t + suc m)) ≡ (i + t) ∷ keep test (from (suc (i + t)) m)
unfolding keep from
first_in test i t m before is = rw (from_append, keep_append, none_before test i t before, is) refl

first_out : (test : ℕ → Bool) (i t m : ℕ) → ((s : ℕ) → s < t → test (i + s) ≡ false) → test (i + t) ≡ false
    → keep test (from i (t + suc m)) ≡ keep test (from (suc (i + t)) m)
unfolding keep from
first_out test i t m before is = rw (from_append, keep_append, none_before test i t before, is) refl

pub states_first : (ws : List ℕ) (w rest : ℕ) → w < 4 → rest < 2 ^ 64 → (rest ≡ 0 → ⊥)
    → states_from ws w rest ≡ (64 * w + count_trailing_zeros 64 rest) ∷ states_from ws w (bit_and rest (rest - 1))
unfolding states_from
states_first ws w rest h small some =
    let t = count_trailing_zeros 64 rest in
    let f : First (bit rest) 64 t = lowest 64 64 rest (omega arith) small some in
    let low = f.within in
    let split : 256 - 64 * w ≡ t + suc (255 - 64 * w - t) = omega arith in
    let one = λ (s : ℕ) (l : s < 64). member_rest ws w rest s h l in
    let less = λ (s : ℕ) (l : s < 64). member_rest ws w (bit_and rest (rest - 1)) s h l ∙ cleared 64 rest small some s in
    rw split
    (first_in (member (replaced ws w rest)) (64 * w) t (255 - 64 * w - t) (λ s l. one s (omega arith) ∙ f.before s l) (one t low ∙ f.is)
    ∙ ap (λ (l : List ℕ). (64 * w + t) ∷ l) (keep_agree _ _ (from (suc (64 * w + t)) (255 - 64 * w - t))
    (each_from _ (suc (64 * w + t)) (255 - 64 * w - t) (λ r a b. later r (omega arith) (omega arith) (dec_lt r (64 * w + 64))))
    ∙ sym (first_out (member (replaced ws w (bit_and rest (rest - 1)))) (64 * w) t (255 - 64 * w - t)
    (λ s l. less s (omega arith) ∙ ap (λ (b : Bool). not (eqb s t) && b) (f.before s l) ∙ and-false (not (eqb s t)))
    (less t low ∙ ap (λ (b : Bool). not b && bit rest t) (eq-eqb t t refl)))))
  where
    later : (r : ℕ) → 64 * w + count_trailing_zeros 64 rest < r → r < 256 → Dec (r < 64 * w + 64)
        → member (replaced ws w rest) r ≡ member (replaced ws w (bit_and rest (rest - 1))) r
    later r a b (yes l) =
        let place : 64 * w + (r - 64 * w) ≡ r = omega arith in
        rw place at (member_rest ws w rest (r - 64 * w) h (omega arith) ∙ sym (member_rest ws w (bit_and rest (rest - 1)) (r - 64 * w) h (omega arith)
        ∙ cleared 64 rest small some (r - 64 * w)
        ∙ ap (λ (t : Bool). not t && bit rest (r - 64 * w)) (ne_eqb (r - 64 * w) (count_trailing_zeros 64 rest) (omega arith))))
    later r a b (no l) = member_behind ws w rest r b (omega arith) ∙ sym (member_behind ws w (bit_and rest (rest - 1)) r b (omega arith))
