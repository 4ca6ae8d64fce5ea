-- Repeated elements and ranges of numbers: what holds of all their elements, a range's members and parts, and that a range rises. By induction on the
-- length; used for the states below n and the rules of the first rows.
use Prim.Native.Nat.{ℕ, zero, suc, ◌+◌, ◌≤◌, ◌<◌}
use native.Mathlib.Decide.{ℕ_discrete}
use native.Mathlib.Nat.{add-zero, add-suc, suc-add, zero-add}
use native.Mathlib.Omega.{arith}
use mathlib.Core.Path.{◌≡◌, refl, ap}
use mathlib.Core.List.Memᴰ
use mathlib.Core.List.{List, [], ◌∷◌, ◌++◌, Memᴰ}
use lib.ListN.{length, replicate}
use Rattle.lists.specs.Lists.{All, none, also, Rising, empty, single, step, Distinct, bare, new, from}

pub replicate_all : {A : Type 0} {P : A → Type 0} (n : ℕ) (x : A) → P x → All P (replicate n x)
replicate_all zero x p = none
replicate_all (suc n) x p = also p (replicate_all n x p)

pub from_low : (i n k : ℕ) → i + n ≤ k → All (λ (q : ℕ). q < k) (from i n)
unfolding from
from_low i zero k h = none
from_low i (suc n) k h = also {x = i} (omega arith) (from_low (suc i) n k (omega arith))

pub from_rising : (i n : ℕ) → Rising (from i n)
unfolding from
from_rising i zero = empty
from_rising i (suc zero) = single
from_rising i (suc (suc n)) = step {a = i} {b = suc i} (omega arith) (from_rising (suc i) (suc n))

pub length_from : (i n : ℕ) → length (from i n) ≡ n
unfolding from
length_from i zero = refl
length_from i (suc n) = ap suc (length_from (suc i) n)

pub from_append : (i a b : ℕ) → from i (a + b) ≡ from i a ++ from (i + a) b
unfolding from
from_append i zero b = rw (zero-add, add-zero)
from_append i (suc a) b = rw (suc-add, add-suc, ← suc-add) (ap (λ (l : List ℕ). i ∷ l) (from_append (suc i) a b))

pub from_step : (i n : ℕ) → from i (n + 1) ≡ from i n ++ ((i + n) ∷ [])
unfolding from
from_step i n = from_append i n 1

pub from_member : (n i q : ℕ) → i ≤ q → q < i + n → Memᴰ q (from i n)
unfolding from
from_member zero i q l h = absurd (omega arith)
from_member (suc n) i q l h =
    elim (ℕ_discrete q i)
    [ yes e ↦ Memᴰ.head e | no d ↦ Memᴰ.tail (from_member n (suc i) q (omega arith) (omega arith)) ]

pub member_from : (n i q : ℕ) → Memᴰ q (from i n) → (i ≤ q) × (q < i + n)
unfolding from
member_from zero i q m = absurd (Memᴰ.not-nil m)
member_from (suc n) i q (Memᴰ.head e) = (omega arith, omega arith)
member_from (suc n) i q (Memᴰ.tail m) = let h = member_from n (suc i) q m in (omega arith, omega arith)

-- What holds from i to i + n holds of the members of that range.
pub each_from : (P : ℕ → Type 0) (i n : ℕ) → ((r : ℕ) → i ≤ r → r < i + n → P r) → (r : ℕ) → Memᴰ r (from i n) → P r
each_from P i n h r m = let b = member_from n i r m in h r b.0 b.1

pub from_distinct : (i n : ℕ) → Distinct (from i n)
unfolding from
from_distinct i zero = bare
from_distinct i (suc n) = new (λ m. let h = member_from n (suc i) i m in omega arith) (from_distinct (suc i) n)
