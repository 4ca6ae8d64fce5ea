-- Decimal numbers: a number's last digit is its remainder by 10, and the digits before it are those of its tenth part. For `put_digits`, `Text` and
-- the theorem on numerals.
use Prim.Native.Nat.{ℕ, zero, suc, ◌+◌, ◌-◌, ◌*◌, ◌/◌, ◌%◌, ◌^◌, ◌≤◌, ◌<◌}
use native.Mathlib.Nat.{pow-succ'}
use native.Mathlib.Decide.{dec_le}
use native.Mathlib.Omega.{arith}
use mathlib.Core.Path.{◌≡◌, refl, ap}
use mathlib.Core.List.{List, [], ◌∷◌, ◌++◌}
use mathlib.Core.Bool.{Bool, true, false, cond}
use lib.ListN.{length, length-append}
use lib.Dec.{ltb}
use borrow.Author.Tests.{ltb-true, ltb-false, lt-ltb, le-ltb}
use Rattle.lists.specs.Lists.{All, none, also}
use Rattle.reporting.specs.Report.{decimal_in, decimal, value_from, value, Numeral}

-- What holds of one digit, and of one digit more, holds of all numbers.
decimal_induction : (P : ℕ → List ℕ → Type 0) → ((v : ℕ) → v < 10 → P v ((48 + v) ∷ []))
    → ((v : ℕ) (ds : List ℕ) → 10 ≤ v → P (v / 10) ds → P v (ds ++ ((48 + v % 10) ∷ [])))
    → (v : ℕ) → P v (decimal v)
unfolding decimal decimal_in
decimal_induction P one more v = go (suc v) v (omega arith)
  where
    go : (digits v : ℕ) → v < digits → P v (decimal_in digits v)
    go zero v h = absurd (omega arith)
    go (suc digits) v h = test (ltb v 10) refl (λ (l : 10 ≤ v). go digits (v / 10) (omega arith))
      where
        test : (t : Bool) → ltb v 10 ≡ t → (10 ≤ v → P (v / 10) (decimal_in digits (v / 10)))
            → P v (cond t ((48 + v) ∷ []) (decimal_in digits (v / 10) ++ ((48 + v % 10) ∷ [])))
        test true e rest = one v (ltb-true v 10 e)
        test false e rest = let l = ltb-false v 10 e in more v (decimal_in digits (v / 10)) l (rest l)

value_last : (high : ℕ) (ds : List ℕ) (d : ℕ) → value_from high (ds ++ (d ∷ [])) ≡ 10 * value_from high ds + (d - 48)
unfolding value_from
value_last high [] d = refl
value_last high (c ∷ ds) d = value_last (10 * high + (c - 48)) ds d

all_last : {P : ℕ → Type 0} {ds : List ℕ} {d : ℕ} → All P ds → P d → All P (ds ++ (d ∷ []))
all_last none p = also p none
all_last (also q qs) p = also q (all_last qs p)

pub decimal_numeral : (v : ℕ) → Numeral v (decimal v)
unfolding value value_from
decimal_numeral = decimal_induction Numeral one more
  where
    one : (v : ℕ) → v < 10 → Numeral v ((48 + v) ∷ [])
    one v h = record {
      reads = omega arith;
      digits = also {x = 48 + v} (omega arith, omega arith) none;
      some = omega arith;
      leading = λ rest e. (let zero : 48 + v ≡ 48 = cc in omega arith, cc);
    }

    more : (v : ℕ) (ds : List ℕ) → 10 ≤ v → Numeral (v / 10) ds → Numeral v (ds ++ ((48 + v % 10) ∷ []))
    more v [] h n = absurd (omega (arith, n.some))
    more v (d ∷ ds) h n = record {
      reads = omega (arith, n.reads, value_last 0 (d ∷ ds) (48 + v % 10));
      digits = all_last n.digits (omega arith, omega arith);
      some = omega arith;
      leading = λ rest e. let zero : d ∷ ds ≡ 48 ∷ ds = cc in absurd (omega (arith, (n.leading ds zero).0));
    }

-- One digit, and the digits before the last.

enough_digits : (n m v : ℕ) → v < n → v < m → decimal_in n v ≡ decimal_in m v
unfolding decimal_in
enough_digits zero m v h l = absurd (omega arith)
enough_digits (suc n) zero v h l = absurd (omega arith)
enough_digits (suc n) (suc m) v h l = test (ltb v 10) refl (λ (more : 10 ≤ v). enough_digits n m (v / 10) (omega arith) (omega arith))
  where
    test : (t : Bool) → ltb v 10 ≡ t → (10 ≤ v → decimal_in n (v / 10) ≡ decimal_in m (v / 10))
        → cond t ((48 + v) ∷ []) (decimal_in n (v / 10) ++ ((48 + v % 10) ∷ []))
        ≡ cond t ((48 + v) ∷ []) (decimal_in m (v / 10) ++ ((48 + v % 10) ∷ []))
    test true e rest = refl
    test false e rest = ap (λ (ds : List ℕ). ds ++ ((48 + v % 10) ∷ [])) (rest (ltb-false v 10 e))

pub decimal_one : (v : ℕ) → v < 10 → decimal v ≡ (48 + v % 10) ∷ []
unfolding decimal decimal_in
decimal_one v h = let digit : v % 10 ≡ v = omega arith in rw (lt-ltb v 10 h, digit)

pub decimal_more : (v : ℕ) → 10 ≤ v → decimal v ≡ decimal (v / 10) ++ ((48 + v % 10) ∷ [])
unfolding decimal decimal_in
decimal_more v h =
    rw (le-ltb v 10 h)
    (ap (λ (ds : List ℕ). ds ++ ((48 + v % 10) ∷ [])) (enough_digits v (suc (v / 10)) (v / 10) (omega arith) (omega arith)))

-- How many digits there are.

digits_most : (k v : ℕ) → v < 10 ^ suc k → length (decimal v) ≤ suc k
digits_most zero v h = rw (decimal_one v (omega arith)) (omega arith)
digits_most (suc k) v h = elim (dec_le 10 v) [
  | yes more ↦ rw (decimal_more v more, length-append) (omega (arith, digits_most k (v / 10) (omega (arith, pow-succ' 10 (suc k)))))
  | no few ↦ rw (decimal_one v (omega arith)) (omega arith)
]

pub digits_few : (v : ℕ) → v < 100000 → length (decimal v) ≤ 5
digits_few = digits_most 4
