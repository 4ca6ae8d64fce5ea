-- The bytes of a number and of some fields; where a buffer has room, and what a call that refuses leaves. From the laws of numbers written over an
-- array; used by the code that writes fields, tables and relations.
use Prim.Native.Nat.{ℕ, ◌/◌, ◌%◌, ◌≤◌, ◌<◌}
use mathlib.Core.Path.{◌≡◌, refl, sym, ap}
use mathlib.Core.List.{List, [], ◌∷◌, ◌++◌}
use mathlib.Core.Bool.{Bool, true, false, cond}
use native.Mathlib.Omega.{arith}
use lib.ListN.{length, drop}
use borrow.Author.Tests.{le-leb, lt-leb}
use lib.Dec.{leb}
use Rattle.lists.specs.Over.{over}
use Rattle.lists.proofs.Overwriting.{over_behind}
use Rattle.records.specs.Bytes.{bytes2, bytes4, fields}
use Rattle.records.specs.Read.{found, refused, Read, ◌>>=◌, ◌>>◌}
use Rattle.records.specs.Output.{written, written_over}
use Rattle.records.proofs.Reading.{refused≢found}

-- Where the reading refuses, an array is afterwards what it was.
abbrev pub Keeps : {A : Type 0} → Read A → List ℕ → List ℕ → Type 0
Keeps x after before = (cause : ℕ) → x ≡ refused cause → after ≡ before

-- Bytes that find no room leave the output.
pub written_keeps : (bytes out : List ℕ) → Keeps (written bytes out) (written_over bytes out) out
unfolding written written_over
written_keeps bytes out cause = go (leb (length bytes) (length out))
  where
    go : (t : Bool) → cond t (found (length bytes)) (refused 13) ≡ refused cause → cond t (bytes ++ drop (length bytes) out) out ≡ out
    go true e = absurd (refused≢found (sym e))
    go false e = refl

-- So do calls that write and then answer.
pub bind_keeps : {A B : Type 0} {after before : List ℕ} (x : Read A) (f : A → B) → Keeps x after before
    → Keeps (x >>= (λ (a : A). found (f a))) after before
unfolding ◌>>=◌
bind_keeps (found a) f keeps cause e = absurd (refused≢found (sym e))
bind_keeps (refused first) f keeps cause e = keeps first refl

pub then_keeps : {A B : Type 0} {after before : List ℕ} (x : Read A) (b : B) → Keeps x after before → Keeps (x >> found b) after before
unfolding ◌>>◌
then_keeps (found a) b keeps cause e = absurd (refused≢found (sym e))
then_keeps (refused first) b keeps cause e = keeps first refl

-- The bytes of a number, each from the number itself.
pub bytes2_each : (v : ℕ) → bytes2 v ≡ (v % 256) ∷ (v / 256 % 256) ∷ []
unfolding bytes2
bytes2_each v = refl

pub bytes4_each : (v : ℕ) → bytes4 v ≡ (v % 256) ∷ (v / 256 % 256) ∷ (v / 65536 % 256) ∷ (v / 16777216 % 256) ∷ []
unfolding bytes4 bytes2
bytes4_each v = ap (λ (last : ℕ). (v % 256) ∷ (v / 256 % 256) ∷ (v / 65536 % 256) ∷ last ∷ []) (omega arith)

pub fields_append : (us vs : List ℕ) → fields (us ++ vs) ≡ fields us ++ fields vs
unfolding fields bytes2
fields_append [] vs = refl
fields_append (u ∷ us) vs = ap (λ (l : List ℕ). bytes2 u ++ l) (fields_append us vs)

pub fields_single : (v : ℕ) → fields (v ∷ []) ≡ bytes2 v
unfolding fields bytes2
fields_single v = refl

pub room_enough : (bytes out : List ℕ) → length bytes ≤ length out
    → (written bytes out ≡ found (length bytes)) × (written_over bytes out ≡ over out 0 bytes)
unfolding written written_over
room_enough bytes out h = rw (le-leb (length bytes) (length out) h) (refl, sym (over_behind [] out bytes 0 refl))

pub room_short : (bytes out : List ℕ) → length out < length bytes
    → (written bytes out ≡ refused 13) × (written_over bytes out ≡ out)
unfolding written written_over
room_short bytes out h = rw (lt-leb (length bytes) (length out) h) (refl, refl)
