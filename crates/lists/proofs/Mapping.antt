-- Maps of lists: two that agree on the elements, one that changes none, one over two ranges, and maps of a part and of a reversed list. For the
-- rules of rows, renamed rules, the bytes of words and stacks of trees.
use Prim.Native.Nat.{ℕ, zero, suc, ◌+◌, ◌<◌}
use native.Mathlib.Nat.{add-zero, add-suc, suc-add}
use native.Mathlib.Omega.{arith}
use mathlib.Core.Path.{◌≡◌, refl, ap, ap₂}
use mathlib.Core.List.{List, [], ◌∷◌, map, reverse, reverse_aux, Memᴰ}
use lib.ListN.{take, drop}
use Rattle.lists.specs.Lists.{from}

pub map_agree : {A B : Type 0} (f g : A → B) (xs : List A) → ((x : A) → Memᴰ x xs → f x ≡ g x) → map f xs ≡ map g xs
map_agree f g [] h = refl
map_agree f g (x ∷ xs) h = ap₂ ◌∷◌ (h x (Memᴰ.head refl)) (map_agree f g xs (λ y m. h y (Memᴰ.tail m)))

pub map_fixed : {A : Type 0} (f : A → A) (xs : List A) → ((x : A) → Memᴰ x xs → f x ≡ x) → map f xs ≡ xs
map_fixed f [] h = refl
map_fixed f (x ∷ xs) h = ap₂ ◌∷◌ (h x (Memᴰ.head refl)) (map_fixed f xs (λ y m. h y (Memᴰ.tail m)))

pub map_shifted : {A : Type 0} (f g : ℕ → A) (a b n : ℕ) → ((j : ℕ) → j < n → f (a + j) ≡ g (b + j)) → map f (from a n) ≡ map g (from b n)
unfolding from
map_shifted f g a b zero h = refl
map_shifted f g a b (suc n) h =
    ap₂ ◌∷◌ (simp add-zero at (h 0 (omega arith)))
    (map_shifted f g (suc a) (suc b) n (λ j l. rw (suc-add, suc-add, ← add-suc, ← add-suc) (h (suc j) (omega arith))))

module _ {A B : Type 0} (f : A → B) where
  pub map_take : (n : ℕ) (xs : List A) → map f (take n xs) ≡ take n (map f xs)
  map_take zero xs = refl
  map_take (suc n) [] = refl
  map_take (suc n) (x ∷ xs) = ap (λ (ys : List B). f x ∷ ys) (map_take n xs)

  pub map_drop : (n : ℕ) (xs : List A) → map f (drop n xs) ≡ drop n (map f xs)
  map_drop zero xs = refl
  map_drop (suc n) [] = refl
  map_drop (suc n) (x ∷ xs) = map_drop n xs

  pub map_reverse : (xs : List A) → map f (reverse xs) ≡ reverse (map f xs)
  map_reverse xs = go xs []
    where
      go : (xs ys : List A) → map f (reverse_aux xs ys) ≡ reverse_aux (map f xs) (map f ys)
      go [] ys = refl
      go (x ∷ xs) ys = go xs (x ∷ ys)
