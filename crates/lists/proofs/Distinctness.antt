-- Lists without repeats: what is kept of one, renamed one to one, or joined with another, has none either. By induction on the list; used for rules
-- and pairs of which none stands twice.
use mathlib.Core.Path.{◌≡◌, refl, sym}
use mathlib.Core.Logic.{◌⊎◌, inl, inr}
use mathlib.Core.List.Memᴰ
use mathlib.Core.List.{List, ◌∷◌, ◌++◌, map, Memᴰ}
use mathlib.Core.Bool.{Bool, true, false, cond}
use Rattle.lists.specs.Lists.{Distinct, bare, new, keep}
use Rattle.lists.proofs.Keeping.{keep_out}

pub keep_distinct : {A : Type 0} (test : A → Bool) {xs : List A} → Distinct xs → Distinct (keep test xs)
unfolding keep
keep_distinct test bare = bare
keep_distinct test (new {x = x} {xs = xs} h d) = go (test x) (keep_distinct test d)
  where
    go : (t : Bool) → Distinct (keep test xs) → Distinct (cond t (x ∷ keep test xs) (keep test xs))
    go true k = new (λ m. h (keep_out test xs m).0) k
    go false k = k

pub distinct_map : {A B : Type 0} (f : A → B) {xs : List A}
    → ((x y : A) → Memᴰ x xs → Memᴰ y xs → f x ≡ f y → x ≡ y) → Distinct xs → Distinct (map f xs)
distinct_map f h bare = bare
distinct_map f h (new {x = x} {xs = xs} other d) =
    new twice (distinct_map f (λ a b m n. h a b (Memᴰ.tail m) (Memᴰ.tail n)) d)
  where
    twice : Memᴰ (f x) (map f xs) → ⊥
    twice m =
        let s = Memᴰ.of_map f xs m in
        other (Memᴰ.cast (h x s.0 (Memᴰ.head refl) (Memᴰ.tail s.1) (sym s.2)) s.1)

pub distinct_append : {A : Type 0} {xs ys : List A} → Distinct xs → Distinct ys
    → ((x : A) → Memᴰ x xs → Memᴰ x ys → ⊥) → Distinct (xs ++ ys)
distinct_append bare e apart = e
distinct_append {ys = ys} (new {x = x} {xs = xs} other d) e apart =
    new (λ m. go (Memᴰ.append_cases xs m)) (distinct_append d e (λ y m n. apart y (Memᴰ.tail m) n))
  where
    go : Memᴰ x xs ⊎ Memᴰ x ys → ⊥
    go (inl m) = other m
    go (inr n) = apart x (Memᴰ.head refl) n
