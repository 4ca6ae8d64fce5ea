-- Sets of states, one after the other: what stands at an entry, after a set is put at one too, and that an entry is four words of 64 bits. By
-- induction on the sets; used by the code that keeps sets in arrays.
use Prim.Native.Nat.{ℕ, zero, suc, ◌≤◌, ◌<◌}
use native.Mathlib.Omega.{arith}
use mathlib.Core.Path.{◌≡◌, refl, ap, ◌∙◌}
use mathlib.Core.List.{List, [], ◌∷◌}
use lib.ListN.{length, get_or, set, replicate}
use Rattle.sets.specs.Set.{empty_set, words}
use Rattle.sets.specs.Entries.{entry_at}
use Rattle.sets.specs.declared.set.StateSet.{StateSet}
use Rattle.sets.proofs.StateSets.{Bounded, bounded_words}

-- A set that is read, whatever is read where there is none; `entry_is` as the code's reads tell it.

pub entry_read : (sets : List StateSet) (e : ℕ) (d : StateSet) → e < length sets → (get_or sets e d).words ≡ entry_at sets e
unfolding entry_at
entry_read [] e d h = absurd (omega arith)
entry_read (x ∷ xs) zero d h = refl
entry_read (x ∷ xs) (suc e) d h = entry_read xs e d (omega arith)

pub entry_is : (sets : List StateSet) (e : ℕ) (s : StateSet) → e < length sets → s ≡ get_or sets e s → s.words ≡ entry_at sets e
entry_is sets e s h is = ap (λ (t : StateSet). t.words) is ∙ entry_read sets e s h

pub entry_none : (sets : List StateSet) (e : ℕ) → length sets ≤ e → entry_at sets e ≡ empty_set
unfolding entry_at
entry_none [] e h = refl
entry_none (x ∷ xs) zero h = absurd (omega arith)
entry_none (x ∷ xs) (suc e) h = entry_none xs e (omega arith)

-- Four words of 64 bits.

pub entry_length : (sets : List StateSet) (e : ℕ) → length (entry_at sets e) ≡ 4
unfolding entry_at empty_set words
entry_length [] e = refl
entry_length (x ∷ xs) zero = x.four
entry_length (x ∷ xs) (suc e) = entry_length xs e

pub entry_bounded : (sets : List StateSet) (e : ℕ) → Bounded (entry_at sets e)
unfolding entry_at empty_set
entry_bounded [] e = bounded_words (λ (i : ℕ). 0) (λ i. omega arith)
entry_bounded (x ∷ xs) zero = x.bits
entry_bounded (x ∷ xs) (suc e) = entry_bounded xs e

-- A set put at an entry.

pub entry_put : (sets : List StateSet) (e : ℕ) (s : StateSet) → e < length sets → entry_at (set sets e s) e ≡ s.words
unfolding entry_at
entry_put [] e s h = absurd (omega arith)
entry_put (x ∷ xs) zero s h = refl
entry_put (x ∷ xs) (suc e) s h = entry_put xs e s (omega arith)

pub entry_other : (sets : List StateSet) (e : ℕ) (s : StateSet) (q : ℕ) → (q ≡ e → ⊥) → entry_at (set sets e s) q ≡ entry_at sets q
unfolding entry_at
entry_other [] e s q other = refl
entry_other (x ∷ xs) zero s zero other = absurd (other refl)
entry_other (x ∷ xs) zero s (suc q) other = refl
entry_other (x ∷ xs) (suc e) s zero other = refl
entry_other (x ∷ xs) (suc e) s (suc q) other = entry_other xs e s q (λ same. other (ap suc same))

-- One set at all entries.

pub entry_repeated : (n e : ℕ) (s : StateSet) → e < n → entry_at (replicate n s) e ≡ s.words
unfolding entry_at
entry_repeated zero e s h = absurd (omega arith)
entry_repeated (suc n) zero s h = refl
entry_repeated (suc n) (suc e) s h = entry_repeated n e s (omega arith)
