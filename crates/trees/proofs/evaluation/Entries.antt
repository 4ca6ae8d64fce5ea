-- The sets and the starts of a stack, by their places: of a part of the stack, after a tree is put at a place, and of stacks joined. By induction on the
-- stack; for the other files here.
use Prim.Native.Nat.{ℕ, zero, suc, ◌+◌, ◌-◌, ◌<◌}
use native.Mathlib.Nat.{suc-add, zero-add}
use native.Mathlib.Omega.{arith}
use mathlib.Core.Path.{◌≡◌, refl, sym, ap, ◌∙◌}
use mathlib.Core.List.{List, [], ◌∷◌, ◌++◌}
use lib.ListN.{length, take, drop, get_or, set, length-drop}
use lib.Seq.{take_all}
use Rattle.sets.specs.Set.{empty_set, words}
use Rattle.sets.specs.Entries.{entry_at}
use Rattle.sets.proofs.StateSets.{Bounded, bounded_words}
use Rattle.trees.specs.Inner.{set_at, start_at}
use Rattle.trees.specs.declared.entry.Entry.{Entry}

-- The part of a list from a place on.
pub rest_from : {A : Type 0} (xs : List A) (i : ℕ) → take (length xs - i) (drop i xs) ≡ drop i xs
rest_from xs i = take_all (length xs - i) (drop i xs) (omega (arith, length-drop i xs))

-- A tree that is read.
pub set_is : (stack : List Entry) (e : ℕ) (t : Entry) → e < length stack → t ≡ get_or stack e t → t.states.words ≡ set_at stack e
unfolding set_at entry_at
set_is [] e t h is = absurd (omega arith)
set_is (x ∷ xs) zero t h is = ap (λ (s : Entry). s.states.words) is
set_is (x ∷ xs) (suc e) t h is = set_is xs e t (omega arith) is

-- Four words of 64 bits.
pub set_length : (stack : List Entry) (e : ℕ) → length (set_at stack e) ≡ 4
unfolding set_at entry_at empty_set words
set_length [] e = refl
set_length (x ∷ xs) zero = x.states.four
set_length (x ∷ xs) (suc e) = set_length xs e

pub set_bounded : (stack : List Entry) (e : ℕ) → Bounded (set_at stack e)
unfolding set_at entry_at empty_set
set_bounded [] e = bounded_words (λ (i : ℕ). 0) (λ i. omega arith)
set_bounded (x ∷ xs) zero = x.states.bits
set_bounded (x ∷ xs) (suc e) = set_bounded xs e

-- Behind others.
set_none : (e : ℕ) → set_at [] e ≡ empty_set
unfolding set_at entry_at
set_none e = refl

set_next : (x : Entry) (xs : List Entry) (i : ℕ) → set_at xs i ≡ set_at (x ∷ xs) (suc i)
unfolding set_at entry_at
set_next x xs i = refl

pub set_behind : (stack : List Entry) (k e : ℕ) → set_at (drop k stack) e ≡ set_at stack (k + e)
set_behind stack zero e = ap (set_at stack) (sym (zero-add e))
set_behind [] (suc k) e = set_none e ∙ sym (set_none (suc k + e))
set_behind (x ∷ xs) (suc k) e = set_behind xs k e ∙ set_next x xs (k + e) ∙ ap (set_at (x ∷ xs)) (sym (suc-add k e))

-- A tree put at a place.
pub set_put : (stack : List Entry) (e : ℕ) (t : Entry) → e < length stack → set_at (set stack e t) e ≡ t.states.words
unfolding set_at entry_at
set_put [] e t h = absurd (omega arith)
set_put (x ∷ xs) zero t h = refl
set_put (x ∷ xs) (suc e) t h = set_put xs e t (omega arith)

pub start_put : (stack : List Entry) (e : ℕ) (t : Entry) → e < length stack → start_at (set stack e t) e ≡ t.start
unfolding start_at
start_put [] e t h = absurd (omega arith)
start_put (x ∷ xs) zero t h = refl
start_put (x ∷ xs) (suc e) t h = start_put xs e t (omega arith)

pub set_below : (stack : List Entry) (e : ℕ) (t : Entry) (i : ℕ) → i < e → set_at (set stack e t) i ≡ set_at stack i
unfolding set_at entry_at
set_below stack zero t i h = absurd (omega arith)
set_below [] (suc e) t i h = refl
set_below (x ∷ xs) (suc e) t zero h = refl
set_below (x ∷ xs) (suc e) t (suc i) h = set_below xs e t i (omega arith)

pub start_below : (stack : List Entry) (e : ℕ) (t : Entry) (i : ℕ) → i < e → start_at (set stack e t) i ≡ start_at stack i
unfolding start_at
start_below stack zero t i h = absurd (omega arith)
start_below [] (suc e) t i h = refl
start_below (x ∷ xs) (suc e) t zero h = refl
start_below (x ∷ xs) (suc e) t (suc i) h = start_below xs e t i (omega arith)

-- One tree more on top.
pub set_before : (stack more : List Entry) (e : ℕ) → e < length stack → set_at (stack ++ more) e ≡ set_at stack e
unfolding set_at entry_at
set_before [] more e h = absurd (omega arith)
set_before (x ∷ xs) more zero h = refl
set_before (x ∷ xs) more (suc e) h = set_before xs more e (omega arith)

pub start_before : (stack more : List Entry) (e : ℕ) → e < length stack → start_at (stack ++ more) e ≡ start_at stack e
unfolding start_at
start_before [] more e h = absurd (omega arith)
start_before (x ∷ xs) more zero h = refl
start_before (x ∷ xs) more (suc e) h = start_before xs more e (omega arith)

pub set_last : (stack : List Entry) (t : Entry) → set_at (stack ++ (t ∷ [])) (length stack) ≡ t.states.words
unfolding set_at entry_at
set_last [] t = refl
set_last (x ∷ xs) t = set_last xs t

pub start_last : (stack : List Entry) (t : Entry) → start_at (stack ++ (t ∷ [])) (length stack) ≡ t.start
unfolding start_at
start_last [] t = refl
start_last (x ∷ xs) t = start_last xs t
