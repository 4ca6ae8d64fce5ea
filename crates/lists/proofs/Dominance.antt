-- What a weaker test keeps is no less; so above each element of a list stands one that no other dominates, if to be dominated is irreflexive
-- and transitive: what dominates the dominating element is less. For the closures, for pruning and for every step that drops what is below.
use Prim.Native.Nat.{ℕ, zero, suc, ◌<◌}
use native.Mathlib.Omega.{arith}
use mathlib.Core.Path.{◌≡◌, refl, sym, ap, ◌∙◌}
use mathlib.Core.Logic.{◌⊎◌, inl, inr}
use mathlib.Core.List.{List, [], ◌∷◌, Memᴰ}
use mathlib.Core.Bool.{Bool, true, false, cond, not, false≢true}
use lib.ListN.{length}
use Rattle.lists.specs.Lists.{keep, any}
use Rattle.lists.proofs.Keeping.{keep_in, keep_out}
use Rattle.lists.proofs.Search.{any_out}

-- What a weaker test keeps is the same or longer.
module _ {A : Type 0} (f g : A → Bool) where
  pub keep_grows : (xs : List A) → ((x : A) → Memᴰ x xs → f x ≡ true → g x ≡ true)
      → (keep g xs ≡ keep f xs) ⊎ (length (keep f xs) < length (keep g xs))
  unfolding keep
  keep_grows [] h = inl refl
  keep_grows (x ∷ xs) h = go (f x) (g x) (h x (Memᴰ.head refl)) (keep_grows xs (λ y m. h y (Memᴰ.tail m)))
    where
      go : (s t : Bool) → (s ≡ true → t ≡ true) → (keep g xs ≡ keep f xs) ⊎ (length (keep f xs) < length (keep g xs))
          → (cond t (x ∷ keep g xs) (keep g xs) ≡ cond s (x ∷ keep f xs) (keep f xs))
          ⊎ (length (cond s (x ∷ keep f xs) (keep f xs)) < length (cond t (x ∷ keep g xs) (keep g xs)))
      go true true i (inl e) = inl (ap (λ (ys : List A). x ∷ ys) e)
      go true true i (inr l) = inr (omega arith)
      go true false i r = absurd (false≢true (i refl))
      go false true i (inl e) = inr (omega (arith, ap length e))
      go false true i (inr l) = inr (omega arith)
      go false false i r = r

  -- It is longer where it keeps an element that the stronger test drops.
  keep_less : {x : A} (xs : List A) → Memᴰ x xs → f x ≡ false → g x ≡ true
      → ((y : A) → Memᴰ y xs → f y ≡ true → g y ≡ true) → length (keep f xs) < length (keep g xs)
  keep_less {x} xs m fails passes h = go (keep_grows xs h)
    where
      go : (keep g xs ≡ keep f xs) ⊎ (length (keep f xs) < length (keep g xs)) → length (keep f xs) < length (keep g xs)
      go (inl e) = absurd (false≢true (sym fails ∙ (keep_out f xs (rw e at (keep_in g m passes))).1))
      go (inr l) = l

-- An element that no element of the list dominates, and that is x or dominates it.
pub record KeptAbove {A : Type 0} (dominated_by : A → A → Bool) (xs : List A) (x : A) : Type 0 where
  pub element : A
  pub member : Memᴰ element (keep (λ (y : A). not (any (dominated_by y) xs)) xs)
  pub above : (x ≡ element) ⊎ (dominated_by x element ≡ true)

module _ {A : Type 0} (dominated_by : A → A → Bool) (xs : List A) (irreflexive : (x : A) → dominated_by x x ≡ false)
    (transitive : (x y z : A) → Memᴰ x xs → Memᴰ y xs → Memᴰ z xs
    → dominated_by x y ≡ true → dominated_by y z ≡ true → dominated_by x z ≡ true) where
  -- The fuel is more than the elements that dominate x.
  above_by : (fuel : ℕ) (x : A) → Memᴰ x xs → length (keep (dominated_by x) xs) < fuel → KeptAbove dominated_by xs x
  above_by zero x m l = absurd (omega arith)
  above_by (suc fuel) x m l = go (any (dominated_by x) xs) refl (above_by fuel)
    where
      through : (y : A) → Memᴰ y xs → dominated_by x y ≡ true → (a : KeptAbove dominated_by xs y)
          → (y ≡ a.element) ⊎ (dominated_by y a.element ≡ true) → dominated_by x a.element ≡ true
      through y n d a (inl e) = rw e at d
      through y n d a (inr h) = transitive x y a.element m n (keep_out _ xs a.member).0 d h

      go : (t : Bool) → any (dominated_by x) xs ≡ t
          → ((y : A) → Memᴰ y xs → length (keep (dominated_by y) xs) < fuel → KeptAbove dominated_by xs y)
          → KeptAbove dominated_by xs x
      go false e rest = record { element = x; member = keep_in _ m (ap not e); above = inl refl }
      go true e rest =
          let f = any_out (dominated_by x) xs e in
          let y = f.element in
          let fewer : length (keep (dominated_by y) xs) < length (keep (dominated_by x) xs) =
          keep_less (dominated_by y) (dominated_by x) xs f.member (irreflexive y) f.passes
          (λ z n. transitive x y z m f.member n f.passes) in
          let a = rest y f.member (omega arith) in
          record { element = a.element; member = a.member; above = inr (through y f.member f.passes a a.above) }

  pub kept_above : (x : A) → Memᴰ x xs → KeptAbove dominated_by xs x
  kept_above x m = above_by (suc (length (keep (dominated_by x) xs))) x m (omega arith)
