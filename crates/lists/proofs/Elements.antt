-- What holds of all elements of a list: of each by place or by membership, carried over to another property or list, and as a test. By induction
-- on the list; used wherever a definition says `All`.
use Prim.Native.Nat.{ℕ, zero, suc, ◌<◌}
use native.Mathlib.Omega.{arith}
use mathlib.Core.Path.{◌≡◌, refl, subst⁻¹}
use mathlib.Core.List.{List, [], ◌∷◌, map, Memᴰ, ◌++◌, reverse_aux}
use mathlib.Core.Bool.{Bool, true}
use lib.ListN.{length, drop, get_or, take}
use lib.Dec.{ltb}
use borrow.Author.Tests.{ltb-true, lt-ltb}
use Rattle.lists.specs.Lists.{All, none, also, all}
use Rattle.lists.proofs.Booleans.{and_true_out}

pub all_map : {A : Type 0} {P Q : A → Type 0} {xs : List A} → ((x : A) → P x → Q x) → All P xs → All Q xs
all_map f none = none
all_map f (also p ps) = also (f _ p) (all_map f ps)

pub all_at : {P : ℕ → Type 0} {xs : List ℕ} → All P xs → (i : ℕ) → i < length xs → P (get_or xs i 0)
all_at none i h = absurd (omega arith)
all_at (also p ps) zero h = p
all_at (also p ps) (suc i) h = all_at ps i (omega arith)

pub all_first : {A : Type 0} {P : A → Type 0} {x : A} {xs : List A} → All P (x ∷ xs) → P x
all_first (also p ps) = p

pub all_rest : {A : Type 0} {P : A → Type 0} {x : A} {xs : List A} → All P (x ∷ xs) → All P xs
all_rest (also p ps) = ps

pub all_member : {A : Type 0} {P : A → Type 0} {x : A} {xs : List A} → All P xs → Memᴰ x xs → P x
all_member none m = elim m [ ]
all_member {P = P} (also p ps) (Memᴰ.head e) = subst⁻¹ P e p
all_member (also p ps) (Memᴰ.tail m) = all_member ps m

pub member_all : {A : Type 0} {P : A → Type 0} (xs : List A) → ((x : A) → Memᴰ x xs → P x) → All P xs
member_all [] h = none
member_all (x ∷ xs) h = also (h x (Memᴰ.head refl)) (member_all xs (λ y m. h y (Memᴰ.tail m)))

pub all_mapped : {A B : Type 0} {P : B → Type 0} (f : A → B) (xs : List A) → ((x : A) → Memᴰ x xs → P (f x)) → All P (map f xs)
all_mapped f [] h = none
all_mapped f (x ∷ xs) h = also (h x (Memᴰ.head refl)) (all_mapped f xs (λ y m. h y (Memᴰ.tail m)))

module _ (t : ℕ → Bool) (P : ℕ → Type 0) where
  pub all→All : ((x : ℕ) → t x ≡ true → P x) → (xs : List ℕ) → all t xs ≡ true → All P xs
  unfolding all
  all→All f [] h = none
  all→All f (x ∷ xs) h = let c = and_true_out (t x) (all t xs) h in also (f x c.0) (all→All f xs c.1)

  pub All→all : ((x : ℕ) → P x → t x ≡ true) → {xs : List ℕ} → All P xs → all t xs ≡ true
  unfolding all
  All→all f none = refl
  All→all f (also p ps) = rw (f _ p, All→all f ps)

pub all_below : (n : ℕ) (xs : List ℕ) → all (λ (q : ℕ). ltb q n) xs ≡ true → All (λ (q : ℕ). q < n) xs
all_below n = all→All (λ (q : ℕ). ltb q n) (λ (q : ℕ). q < n) (λ q. ltb-true q n)

pub below_all : (n : ℕ) {xs : List ℕ} → All (λ (q : ℕ). q < n) xs → all (λ (q : ℕ). ltb q n) xs ≡ true
below_all n = All→all (λ (q : ℕ). ltb q n) (λ (q : ℕ). q < n) (λ q. lt-ltb q n)

pub all_take : {A : Type 0} {P : A → Type 0} (n : ℕ) (ts : List A) → All P ts → All P (take n ts)
all_take zero ts h = none
all_take (suc n) [] none = none
all_take (suc n) (t ∷ ts) (also p ps) = also p (all_take n ts ps)

pub all_drop : {A : Type 0} {P : A → Type 0} (n : ℕ) (ts : List A) → All P ts → All P (drop n ts)
all_drop zero ts h = h
all_drop (suc n) [] none = none
all_drop (suc n) (t ∷ ts) (also p ps) = all_drop n ts ps

pub all_reverse : {A : Type 0} {P : A → Type 0} (ts rs : List A) → All P ts → All P rs → All P (reverse_aux ts rs)
all_reverse [] rs none h = h
all_reverse (t ∷ ts) rs (also p ps) h = all_reverse ts (t ∷ rs) ps (also p h)

pub all_append : {A : Type 0} {P : A → Type 0} {xs ys : List A} → All P xs → All P ys → All P (xs ++ ys)
all_append none h = h
all_append (also p ps) h = also p (all_append ps h)
