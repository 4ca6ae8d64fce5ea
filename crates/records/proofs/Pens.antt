-- Bytes written with a pen: one run after another is one run, and what a function has still to write. From the laws of numbers written over an array;
-- used by the code that writes fields, tables and reports.
use Prim.Native.Nat.{ℕ, ◌+◌, ◌<◌}
use native.Mathlib.Nat.{add_assoc, add-zero}
use native.Mathlib.Numerals.{add-one}
use native.Mathlib.Omega.{arith}
use mathlib.Core.Path.{◌≡◌, refl, sym, ap, ◌∙◌}
use mathlib.Core.List.{List, [], ◌∷◌, ◌++◌, append_assoc}
use lib.ListN.{length, take, get_or, length-append, length-take}
use lib.Seq.{take-suc, take_all}
use Rattle.lists.proofs.Overwriting.{over_length, over_nil, over_over}
use Rattle.records.specs.Bytes.{bytes2, bytes4, fields}
use Rattle.records.specs.Record.{encode_record}
use Rattle.records.specs.Pen.{put_in, HasRoom}
use Rattle.records.specs.declared.output.Pen.{Pen}
use Rattle.records.proofs.Fields.{length_fields}
use Rattle.records.proofs.Buffers.{bytes2_each, bytes4_each, fields_append, fields_single}

-- What a search needs where one run is written after another: fields and records in parts, how long they are, and the laws of `over`.

pub length_bytes2 : (v : ℕ) → length (bytes2 v) ≡ 2
unfolding bytes2
length_bytes2 v = refl

pub length_bytes4 : (v : ℕ) → length (bytes4 v) ≡ 4
unfolding bytes4 bytes2
length_bytes4 v = refl

pub record_parts : (kind : ℕ) (body : List ℕ) → encode_record kind body ≡ (bytes4 (2 + length body) ++ bytes2 kind) ++ body
unfolding encode_record
record_parts kind body = sym (append_assoc (bytes4 (2 + length body)) (bytes2 kind) body)

pub fields_none : fields [] ≡ []
unfolding fields
fields_none = refl

pub fields_first : (v : ℕ) (vs : List ℕ) → fields (v ∷ vs) ≡ bytes2 v ++ fields vs
unfolding fields
fields_first v vs = refl

pub fields_more : (vs : List ℕ) (j : ℕ) → j < length vs → fields (take (j + 1) vs) ≡ fields (take j vs) ++ bytes2 (get_or vs j 0)
fields_more vs j h = rw (add-one, take-suc vs j 0 h, fields_append, fields_single)

pub ruleset by_pen = (
  over_length,
  over_over,
  over_nil,
  length-append,
  append_assoc,
  length_bytes2,
  bytes2_each,
  length_bytes4,
  bytes4_each,
  record_parts,
  fields_none,
  fields_first,
  fields_more,
  length_fields,
  length-take,
  take_all,
)

put_in_nil : (w : Pen) → w ≡ put_in [] w
put_in_nil w = rw add-zero (ap (λ (now : List ℕ). record w { out = record w.out { now = now } }) (over_nil w.out.now w.at))

put_in_then : (w : Pen) (xs ys : List ℕ) → HasRoom (length xs + length ys) w → put_in ys (put_in xs w) ≡ put_in (xs ++ ys) w
put_in_then w xs ys room =
    rw (length-append, ← add_assoc, over_over w.out.now w.at xs ys (w.at + length xs) refl (omega arith))

-- Writing what is left makes the whole.
pub record Left (whole : List ℕ) (start now : Pen) (left : List ℕ) : Type 0 where
  pub room : HasRoom (length left) now
  pub same : put_in left now ≡ put_in whole start

pub all_left : {w : Pen} {whole : List ℕ} → HasRoom (length whole) w → Left whole w w whole
all_left room = record { room = room; same = refl }

module _ {whole left : List ℕ} {start now : Pen} (l : Left whole start now left) where
  module _ (xs ys : List ℕ) (first : left ≡ xs ++ ys) where
    pub next_fits : HasRoom (length xs + length ys) now
    next_fits = omega (arith, l.room, ap length first, length-append xs ys)

    pub next_left : {next : Pen} → next ≡ put_in xs now → Left whole start next ys
    next_left written =
        rw written (record {
          room = omega (arith, next_fits, over_length now.out.now xs now.at (omega (arith, next_fits)));
          same = put_in_then now xs ys next_fits ∙ ap (λ (bytes : List ℕ). put_in bytes now) (sym first) ∙ l.same;
        })

  pub last_left : {next : Pen} → next ≡ put_in left now → next ≡ put_in whole start
  last_left written = written ∙ l.same

  pub none_left : left ≡ [] → now ≡ put_in whole start
  none_left none = put_in_nil now ∙ ap (λ (bytes : List ℕ). put_in bytes now) (sym none) ∙ l.same
