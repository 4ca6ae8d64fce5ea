-- Tests joined by `and`, `or` and `not`: when the whole passes and when it fails, from when the parts do, and back (`-in`, `-out`). By cases on
-- the tests. The searches of this crate and most proofs above use it.
use mathlib.Core.Path.{◌≡◌, refl, sym}
use mathlib.Core.Bool.{Bool, true, false, false≢true, not, true≢false, ◌&&◌, ◌||◌}
use mathlib.Core.Logic.{◌⊎◌, inl, inr}

pub and_true_out : (s t : Bool) → (s && t) ≡ true → (s ≡ true) × (t ≡ true)
and_true_out true t h = (refl, h)
and_true_out false t h = absurd (false≢true h)

pub and_true_in : {s t : Bool} → s ≡ true → t ≡ true → (s && t) ≡ true
and_true_in h k = rw (h, k)

pub and_false_left : {s : Bool} (t : Bool) → s ≡ false → (s && t) ≡ false
and_false_left t h = rw h

pub and_false_right : (s : Bool) {t : Bool} → t ≡ false → (s && t) ≡ false
and_false_right true h = h
and_false_right false h = refl

pub or_true_out : (s t : Bool) → (s || t) ≡ true → (s ≡ true) ⊎ (t ≡ true)
or_true_out true t h = inl refl
or_true_out false t h = inr h

pub or_true_left : {s : Bool} (t : Bool) → s ≡ true → (s || t) ≡ true
or_true_left t h = rw h

pub or_true_right : (s : Bool) {t : Bool} → t ≡ true → (s || t) ≡ true
or_true_right true h = refl
or_true_right false h = h

pub or_false_out : (s t : Bool) → (s || t) ≡ false → (s ≡ false) × (t ≡ false)
or_false_out true t h = absurd (true≢false h)
or_false_out false t h = (refl, h)

pub or_false_in : {s t : Bool} → s ≡ false → t ≡ false → (s || t) ≡ false
or_false_in h k = rw (h, k)

-- Two tests that pass the same are equal.
pub same_bool : {s t : Bool} → (s ≡ true → t ≡ true) → (t ≡ true → s ≡ true) → s ≡ t
same_bool {s = true} {t = true} f g = refl
same_bool {s = true} {t = false} f g = absurd (false≢true (f refl))
same_bool {s = false} {t = true} f g = absurd (false≢true (g refl))
same_bool {s = false} {t = false} f g = refl

pub never_true : {t : Bool} → (t ≡ true → ⊥) → t ≡ false
never_true {t = true} h = absurd (h refl)
never_true {t = false} h = refl

pub not_true_in : {t : Bool} → (t ≡ true → ⊥) → not t ≡ true
not_true_in h = rw (never_true h)

pub not_true_out : {t : Bool} → not t ≡ true → t ≡ true → ⊥
not_true_out {t = true} h e = true≢false (sym h)
not_true_out {t = false} h e = true≢false (sym e)

-- What follows a test that passes, and what matters only where it passes.
pub and_left : {s : Bool} (t : Bool) → s ≡ true → (s && t) ≡ t
and_left t h = rw h

pub and_same : {a b : Bool} (t : Bool) → (t ≡ true → a ≡ b) → (t && a) ≡ (t && b)
and_same true same = same refl
and_same false same = refl
