-- A search through a list (`any`), a test of all its elements (`all`) and membership as a test (`among`): what each says of the elements, and back;
-- through other lists, by other tests, and from an index on as loops go. By induction on the list or on the membership.
use Prim.Native.Nat.{ℕ, ◌+◌, ◌≤◌, ◌<◌}
use native.Mathlib.Omega.{arith}
use mathlib.Core.Path.{◌≡◌, refl, sym, ap₂, ap, ◌∙◌}
use mathlib.Core.List.Memᴰ
use mathlib.Core.List.{List, [], ◌∷◌, Memᴰ, ◌++◌, map}
use mathlib.Core.Bool.{Bool, true, false, cond, false≢true, ◌&&◌, ◌||◌, and_assoc, or_assoc}
use lib.Dec.{eqb}
use borrow.Author.Tests.{eq-eqb, eqb-true}
use mathlib.Core.Logic.{◌⊎◌, inl, inr}
use Rattle.std.specs.List.{list_all, list_any}
use Rattle.lists.specs.Lists.{all, keep, among, from, any}
use Rattle.lists.proofs.Booleans.{same_bool, and_true_in, and_true_out, or_false_in, or_true_left, or_true_out, or_true_right}
use Rattle.lists.proofs.Keeping.{keep_in, keep_out}
use Rattle.lists.proofs.Ranges.{each_from, from_member}

-- The element that a search finds.
pub record Found {A : Type 0} (test : A → Bool) (xs : List A) : Type 0 where
  pub element : A
  pub member : Memᴰ element xs
  pub passes : test element ≡ true

module _ {A : Type 0} (test : A → Bool) where
  pub any_in : {x : A} {xs : List A} → Memᴰ x xs → test x ≡ true → any test xs ≡ true
  unfolding any
  any_in (Memᴰ.head {xs = xs} e) h = or_true_left (any test xs) (ap test (sym e) ∙ h)
  any_in (Memᴰ.tail {x = y} m) h = or_true_right (test y) (any_in m h)

  pub any_out : (xs : List A) → any test xs ≡ true → Found test xs
  unfolding any
  any_out [] h = absurd (false≢true h)
  any_out (x ∷ xs) h = first (or_true_out (test x) (any test xs) h) (any_out xs)
    where
      first : (test x ≡ true) ⊎ (any test xs ≡ true) → (any test xs ≡ true → Found test xs) → Found test (x ∷ xs)
      first (inl p) later = record { element = x; member = Memᴰ.head refl; passes = p }
      first (inr p) later =
          let f = later p in record { element = f.element; member = Memᴰ.tail f.member; passes = f.passes }

  pub any_none : (xs : List A) → ((x : A) → Memᴰ x xs → test x ≡ false) → any test xs ≡ false
  unfolding any
  any_none [] h = refl
  any_none (x ∷ xs) h = or_false_in (h x (Memᴰ.head refl)) (any_none xs (λ y m. h y (Memᴰ.tail m)))

  pub any_none_out : {xs : List A} → any test xs ≡ false → (x : A) → Memᴰ x xs → test x ≡ false
  any_none_out h x m = go (test x) refl
    where
      go : (t : Bool) → test x ≡ t → t ≡ false
      go true e = sym (any_in m e) ∙ h
      go false e = refl

  pub any_append : (xs ys : List A) → any test (xs ++ ys) ≡ (any test xs || any test ys)
  unfolding any
  any_append [] ys = refl
  any_append (x ∷ xs) ys = rw (any_append xs ys) (sym (or_assoc (test x) (any test xs) (any test ys)))

  pub all_in : (xs : List A) → ((x : A) → Memᴰ x xs → test x ≡ true) → all test xs ≡ true
  unfolding all
  all_in [] f = refl
  all_in (x ∷ xs) f =
      and_true_in (f x (Memᴰ.head refl)) (all_in xs (λ y m. f y (Memᴰ.tail m)))

  all_found : {x : A} {xs : List A} → Memᴰ x xs → all test xs ≡ true → test x ≡ true
  unfolding all
  all_found (Memᴰ.head {xs = xs} e) h = ap test e ∙ (and_true_out _ (all test xs) h).0
  all_found (Memᴰ.tail {x = y} {xs = xs} m) h = all_found m (and_true_out (test y) (all test xs) h).1

  pub all_out : {xs : List A} → all test xs ≡ true → (x : A) → Memᴰ x xs → test x ≡ true
  all_out h x m = all_found m h

-- Searches through what a map or a test leaves.

pub any_map : {A B : Type 0} (test : B → Bool) (f : A → B) (xs : List A) → any test (map f xs) ≡ any (λ (x : A). test (f x)) xs
unfolding any
any_map test f [] = refl
any_map test f (x ∷ xs) = ap (λ (t : Bool). test (f x) || t) (any_map test f xs)

pub any_keep : {A : Type 0} (test kept : A → Bool) (xs : List A) → any test (keep kept xs) ≡ any (λ (x : A). kept x && test x) xs
unfolding any keep
any_keep test kept [] = refl
any_keep {A} test kept (x ∷ xs) = go (kept x) (any_keep test kept xs)
  where
    go : (t : Bool) → any test (keep kept xs) ≡ any (λ (x : A). kept x && test x) xs
        → any test (cond t (x ∷ keep kept xs) (keep kept xs)) ≡ ((t && test x) || any (λ (x : A). kept x && test x) xs)
    go true e = ap (λ (s : Bool). test x || s) e
    go false e = e

-- Searches by two tests that agree on the elements, and through two lists.

module _ {A : Type 0} (f g : A → Bool) where
  pub any_agree : (xs : List A) → ((x : A) → Memᴰ x xs → f x ≡ g x) → any f xs ≡ any g xs
  unfolding any
  any_agree [] same = refl
  any_agree (x ∷ xs) same =
      ap₂ ◌||◌ (same x (Memᴰ.head refl)) (any_agree xs (λ y m. same y (Memᴰ.tail m)))

  pub all_agree : (xs : List A) → ((x : A) → Memᴰ x xs → f x ≡ g x) → all f xs ≡ all g xs
  unfolding all
  all_agree [] same = refl
  all_agree (x ∷ xs) same =
      ap₂ ◌&&◌ (same x (Memᴰ.head refl)) (all_agree xs (λ y m. same y (Memᴰ.tail m)))

-- On a range.
pub any_same : (f g : ℕ → Bool) (i n : ℕ) → ((j : ℕ) → i ≤ j → j < i + n → f j ≡ g j) → any f (from i n) ≡ any g (from i n)
any_same f g i n same = any_agree f g (from i n) (each_from (λ (j : ℕ). f j ≡ g j) i n same)

pub all_joined : {A : Type 0} (test : A → Bool) (xs ys : List A) → all test (xs ++ ys) ≡ (all test xs && all test ys)
unfolding all
all_joined test [] ys = refl
all_joined test (x ∷ xs) ys = rw (all_joined test xs ys) (sym (and_assoc (test x) (all test xs) (all test ys)))

-- The searches of the library are these.

pub all_listed : {A : Type 0} (test : A → Bool) (xs : List A) → list_all test xs ≡ all test xs
unfolding all
all_listed test [] = refl
all_listed test (x ∷ xs) = ap (λ (t : Bool). test x && t) (all_listed test xs)

pub any_listed : {A : Type 0} (test : A → Bool) (xs : List A) → list_any test xs ≡ any test xs
unfolding any
any_listed test [] = refl
any_listed test (x ∷ xs) = ap (λ (t : Bool). test x || t) (any_listed test xs)

pub among_out : (xs : List ℕ) (q : ℕ) → among xs q ≡ true → Memᴰ q xs
unfolding among
among_out xs q h =
    let f = any_out (λ (p : ℕ). eqb p q) xs h in Memᴰ.cast (sym (eqb-true f.element q f.passes)) f.member

pub among_in : {xs : List ℕ} {q : ℕ} → Memᴰ q xs → among xs q ≡ true
unfolding among
among_in {xs} {q} m = any_in (λ (p : ℕ). eqb p q) m (eq-eqb q q refl)

-- Among what is kept of a range.
pub among_kept : (test : ℕ → Bool) (n q : ℕ) → q < n → among (keep test (from 0 n)) q ≡ test q
among_kept test n q h =
    same_bool (λ e. (keep_out test (from 0 n) (among_out (keep test (from 0 n)) q e)).1)
    (λ e. among_in (keep_in test (from_member n 0 q (omega arith) (omega arith)) e))
