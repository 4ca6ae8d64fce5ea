-- An array that is filled from the front, as loops do it, and a part of an array up to its end. From the laws of `set`, `take` and `drop`.
use Prim.Native.Nat.{ℕ, ◌+◌, ◌-◌, ◌≤◌, ◌<◌}
use native.Mathlib.Nat.{le_refl, eq-or-lt_of_le}
use native.Mathlib.Omega.{arith}
use mathlib.Core.Path.{◌≡◌}
use mathlib.Core.List.{List}
use lib.ListN.{length, take, drop, get_or, length-drop, set}
use lib.Seq.{take_all, get_or-set_same, get_or-set_other}
use mathlib.Core.Logic.{◌⊎◌, inl, inr}

-- One element more of a list that is filled from the front, and one fewer of the rest.
pub filled_more : {A : Type 0} (P : ℕ → A → Type 0) (d : A) (l : List A) (i : ℕ) (x : A) → i < length l
    → ((j : ℕ) → j < i → P j (get_or l j d)) → P i x → (j : ℕ) → j < i + 1 → P j (get_or (set l i x) j d)
filled_more P d l i x h filled p j b = go (eq-or-lt_of_le {n = j} {m = i} (omega arith))
  where
    go : (j ≡ i) ⊎ (j < i) → P j (get_or (set l i x) j d)
    go (inl e) = rw (e, get_or-set_same l i x d h) p
    go (inr b) = rw (get_or-set_other l i j x d (λ e. omega arith)) (filled j b)

pub rest_fewer : {A : Type 0} (P : ℕ → A → Type 0) (d : A) (l : List A) (i : ℕ) (x : A)
    → ((j : ℕ) → i ≤ j → P j (get_or l j d)) → (j : ℕ) → i + 1 ≤ j → P j (get_or (set l i x) j d)
rest_fewer P d l i x rest j b = rw (get_or-set_other l i j x d (λ e. omega arith)) (rest j (omega arith))

-- A part up to the end, as the code's `&b[i..]` gives it, is the list without its first i elements.
pub part_to_end : (b : List ℕ) (i : ℕ) → take (length b - i) (drop i b) ≡ drop i b
part_to_end b i = take_all (length b - i) (drop i b) (rw length-drop (le_refl (length b - i)))
