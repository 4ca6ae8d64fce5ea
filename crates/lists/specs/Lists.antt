-- Lists: what holds of all elements, rising lists, lists without repeats, ranges.
use Rattle.std.specs.Prelude.{ℕ, zero, suc, ◌<◌, Bool, true, false, cond, ◌&&◌, ◌||◌, ltb, eqb}
use mathlib.Core.List.{List, [], ◌∷◌, Memᴰ}

pub data All {A : Type 0} (P : A → Type 0) : List A → Type 0 where
  none : All P []
  also : {x : A} {xs : List A} → P x → All P xs → All P (x ∷ xs)

-- Each number is above the one before it.
pub data Rising : List ℕ → Type 0 where
  empty : Rising []
  single : {a : ℕ} → Rising (a ∷ [])
  step : {a b : ℕ} {xs : List ℕ} → a < b → Rising (b ∷ xs) → Rising (a ∷ (b ∷ xs))

-- No element stands twice.
pub data Distinct {A : Type 0} : List A → Type 0 where
  bare : Distinct []
  new : {x : A} {xs : List A} → (Memᴰ x xs → ⊥) → Distinct xs → Distinct (x ∷ xs)

-- The first two as tests.
unfoldable pub all : {A : Type 0} → (A → Bool) → List A → Bool
all test [] = true
all test (x ∷ xs) = test x && all test xs

unfoldable pub rising : List ℕ → Bool
rising [] = true
rising (a ∷ []) = true
rising (a ∷ (b ∷ xs)) = ltb a b && rising (b ∷ xs)

-- n numbers from i on.
unfoldable pub from : ℕ → ℕ → List ℕ
from i zero = []
from i (suc n) = i ∷ from (suc i) n

-- The elements that pass a test, in order.
unfoldable pub keep : {A : Type 0} → (A → Bool) → List A → List A
keep test [] = []
keep test (x ∷ xs) = cond (test x) (x ∷ keep test xs) (keep test xs)

unfoldable pub any : {A : Type 0} → (A → Bool) → List A → Bool
any test [] = false
any test (x ∷ xs) = test x || any test xs

unfoldable pub among : List ℕ → ℕ → Bool
among states q = any (λ (p : ℕ). eqb p q) states
