-- What is kept of a list: its members, its length, keeping all or nothing, and keeping of what was kept, mapped or joined. By induction on the list;
-- used for sets of states and for the steps that keep some of the rules.
use Prim.Native.Nat.{suc, ◌≤◌, ℕ}
use native.Mathlib.Omega.{arith}
use mathlib.Core.Path.{◌≡◌, refl, sym, ap, ◌∙◌}
use mathlib.Core.List.Memᴰ
use mathlib.Core.List.{List, [], ◌∷◌, ◌++◌, map, Memᴰ}
use mathlib.Core.Bool.{Bool, true, false, cond, ◌&&◌}
use lib.ListN.{length}
use Rattle.lists.specs.Lists.{keep, All}

pub all_keep : {P : ℕ → Type 0} (test : ℕ → Bool) {qs : List ℕ} → All P qs → All P (keep test qs)
unfolding keep
all_keep test All.none = All.none
all_keep {P} test (All.also {x = x} {xs = xs} p ps) = go (test x) (all_keep test ps)
  where
    go : (t : Bool) → All P (keep test xs) → All P (cond t (x ∷ keep test xs) (keep test xs))
    go true k = All.also p k
    go false k = k

module _ {A : Type 0} (test : A → Bool) where
  pub keep_in : {x : A} {xs : List A} → Memᴰ x xs → test x ≡ true → Memᴰ x (keep test xs)
  unfolding keep
  keep_in {x} (Memᴰ.head {x = y} {xs = xs} e) h =
      let passes : test y ≡ true = ap test (sym e) ∙ h in
      rw passes (Memᴰ.head e)
  keep_in {x} (Memᴰ.tail {x = y} {xs = xs} m) h = go (test y) (keep_in m h)
    where
      go : (t : Bool) → Memᴰ x (keep test xs) → Memᴰ x (cond t (y ∷ keep test xs) (keep test xs))
      go true n = Memᴰ.tail n
      go false n = n

  pub keep_out : (xs : List A) {x : A} → Memᴰ x (keep test xs) → Memᴰ x xs × (test x ≡ true)
  unfolding keep
  keep_out [] m = absurd (Memᴰ.not-nil m)
  keep_out (y ∷ ys) {x} m = go (test y) refl (keep_out ys) m
    where
      later : Memᴰ x ys × (test x ≡ true) → Memᴰ x (y ∷ ys) × (test x ≡ true)
      later r = (Memᴰ.tail r.0, r.1)

      go : (t : Bool) → test y ≡ t → (Memᴰ x (keep test ys) → Memᴰ x ys × (test x ≡ true))
          → Memᴰ x (cond t (y ∷ keep test ys) (keep test ys)) → Memᴰ x (y ∷ ys) × (test x ≡ true)
      go true e rest (Memᴰ.head f) = (Memᴰ.head f, ap test f ∙ e)
      go true e rest (Memᴰ.tail n) = later (rest n)
      go false e rest n = later (rest n)

  pub keep_all : (xs : List A) → ((x : A) → Memᴰ x xs → test x ≡ true) → keep test xs ≡ xs
  unfolding keep
  keep_all [] h = refl
  keep_all (x ∷ xs) h = rw (h x (Memᴰ.head refl), keep_all xs (λ y m. h y (Memᴰ.tail m)))

  pub keep_none : (xs : List A) → ((x : A) → Memᴰ x xs → test x ≡ false) → keep test xs ≡ []
  unfolding keep
  keep_none [] h = refl
  keep_none (x ∷ xs) h = rw (h x (Memᴰ.head refl)) (keep_none xs (λ y m. h y (Memᴰ.tail m)))

  pub keep_shorter : (xs : List A) → length (keep test xs) ≤ length xs
  unfolding keep
  keep_shorter [] = omega arith
  keep_shorter (x ∷ xs) = go (test x) (keep_shorter xs)
    where
      go : (t : Bool) → length (keep test xs) ≤ length xs → length (cond t (x ∷ keep test xs) (keep test xs)) ≤ suc (length xs)
      go true l = omega arith
      go false l = omega arith

pub keep_agree : {A : Type 0} (f g : A → Bool) (xs : List A) → ((x : A) → Memᴰ x xs → f x ≡ g x) → keep f xs ≡ keep g xs
unfolding keep
keep_agree f g [] h = refl
keep_agree f g (x ∷ xs) h = rw (h x (Memᴰ.head refl), keep_agree f g xs (λ y m. h y (Memᴰ.tail m)))

pub keep_map : {A B : Type 0} (test : B → Bool) (f : A → B) (xs : List A)
    → keep test (map f xs) ≡ map f (keep (λ (x : A). test (f x)) xs)
unfolding keep
keep_map test f [] = refl
keep_map {A} test f (x ∷ xs) = rw (keep_map test f xs) (go (test (f x)))
  where
    go : (t : Bool) → cond t (f x ∷ map f (keep (λ (y : A). test (f y)) xs)) (map f (keep (λ (y : A). test (f y)) xs))
        ≡ map f (cond t (x ∷ keep (λ (y : A). test (f y)) xs) (keep (λ (y : A). test (f y)) xs))
    go true = refl
    go false = refl

pub keep_both : {A : Type 0} (f g : A → Bool) (xs : List A) → keep f (keep g xs) ≡ keep (λ (x : A). g x && f x) xs
unfolding keep
keep_both f g [] = refl
keep_both {A} f g (x ∷ xs) = go (g x) (keep_both f g xs)
  where
    go : (t : Bool) → keep f (keep g xs) ≡ keep (λ (y : A). g y && f y) xs
        → keep f (cond t (x ∷ keep g xs) (keep g xs))
        ≡ cond (t && f x) (x ∷ keep (λ (y : A). g y && f y) xs) (keep (λ (y : A). g y && f y) xs)
    go true e = ap (λ (l : List A). cond (f x) (x ∷ l) l) e
    go false e = e

pub keep_append : {A : Type 0} (test : A → Bool) (us vs : List A) → keep test (us ++ vs) ≡ keep test us ++ keep test vs
unfolding keep
keep_append test [] vs = refl
keep_append {A} test (u ∷ us) vs = go (test u) (keep_append test us vs)
  where
    go : (t : Bool) → keep test (us ++ vs) ≡ keep test us ++ keep test vs
        → cond t (u ∷ keep test (us ++ vs)) (keep test (us ++ vs)) ≡ cond t (u ∷ keep test us) (keep test us) ++ keep test vs
    go true e = ap (λ (l : List A). u ∷ l) e
    go false e = e

-- What is kept of a list and is as long is the list.
pub keep_full : {A : Type 0} (test : A → Bool) (xs : List A) → length (keep test xs) ≡ length xs → keep test xs ≡ xs
unfolding keep
keep_full test [] e = refl
keep_full {A} test (x ∷ xs) e = go (test x) (keep_full test xs) (keep_shorter test xs) e
  where
    go : (t : Bool) → (length (keep test xs) ≡ length xs → keep test xs ≡ xs) → length (keep test xs) ≤ length xs
        → length (cond t (x ∷ keep test xs) (keep test xs)) ≡ suc (length xs) → cond t (x ∷ keep test xs) (keep test xs) ≡ x ∷ xs
    go true rest l e = ap (λ (l : List A). x ∷ l) (rest (omega arith))
    go false rest l e = absurd (omega arith)
