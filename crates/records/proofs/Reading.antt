-- Readings one after the other: what one that finds something has passed, and how they join. By cases on what was read; used wherever bytes are
-- judged.
use Prim.Native.Nat.{ℕ}
use native.Mathlib.Omega.{arith}
use mathlib.Core.Path.{◌≡◌, refl, sym}
use mathlib.Core.Bool.{Bool, true, false}
use Rattle.records.specs.Read.{Read, found, refused, ◌>>=◌, ◌>>◌, check, map_read}

pub refused≢found : {A : Type 0} {cause : ℕ} {a : A} → refused cause ≡ found a → ⊥
refused≢found h = let z : ◌≡◌ {A = ℕ} 0 1 = cc in omega arith

pub bind_found :
    {A B : Type 0} (x : Read A) (f : A → Read B) {y : B} → x >>= f ≡ found y → (a : A) × (x ≡ found a) × (f a ≡ found y)
unfolding ◌>>=◌
bind_found (found a) f h = (a, refl, h)
bind_found (refused cause) f h = absurd (refused≢found h)

pub then_found :
    {A B : Type 0} (x : Read A) (y : Read B) {z : B} → x >> y ≡ found z → (a : A) × (x ≡ found a) × (y ≡ found z)
unfolding ◌>>◌
then_found (found a) y h = (a, refl, h)
then_found (refused cause) y h = absurd (refused≢found h)

pub check_found : (t : Bool) (cause : ℕ) {u : Unit {0}} → check t cause ≡ found u → t ≡ true
unfolding check
check_found true cause h = refl
check_found false cause h = absurd (refused≢found h)

-- A check and what follows it.
pub checked :
    {B : Type 0} (t : Bool) (cause : ℕ) (y : Read B) {z : B} → check t cause >> y ≡ found z → (t ≡ true) × (y ≡ found z)
checked t cause y h = let s = then_found (check t cause) y h in (check_found t cause s.1, s.2)

pub found_same : {A : Type 0} {a b : A} → found a ≡ found b → a ≡ b
found_same h = cc

-- What was read, from what it is mapped to.
module _ {A B : Type 0} (f : A → B) where
  pub map_found : (x : Read A) {b : B} → map_read f x ≡ found b → (a : A) × (x ≡ found a) × (f a ≡ b)
  unfolding map_read
  map_found (found a) h = (a, refl, found_same h)
  map_found (refused cause) h = absurd (refused≢found h)

  pub map_refused : (x : Read A) {cause : ℕ} → map_read f x ≡ refused cause → x ≡ refused cause
  unfolding map_read
  map_refused (found a) h = absurd (refused≢found (sym h))
  map_refused (refused cause) h = cc

-- Steps one after the other, along equal last steps.
pub bind_bind : {A B C : Type 0} (x : Read A) (f : A → Read B) (g h : B → Read C) → ((b : B) → g b ≡ h b)
    → x >>= f >>= g ≡ x >>= (λ (a : A). f a >>= h)
unfolding ◌>>=◌
bind_bind {B = B} (found a) f g h same = go (f a)
  where
    go : (y : Read B) → y >>= g ≡ y >>= h
    go (found b) = same b
    go (refused cause) = refl
bind_bind (refused cause) f g h same = refl
