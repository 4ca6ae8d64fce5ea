-- Records written and read: an encoded record opens with its kind, body and end, and a record that opens is encoded. From fields written and read;
-- used for the encoding of tables and of reduced tables.
use Prim.Native.Nat.{ℕ, ◌+◌, ◌-◌, ◌<◌}
use native.Mathlib.Omega.{arith}
use mathlib.Core.Path.{◌≡◌, ap, ◌∙◌}
use mathlib.Core.List.{List, ◌++◌, append_assoc}
use lib.ListN.{length, take, drop, length-append, length-take, length-drop, take-append-drop}
use lib.Seq.{drop_at, take_at, drop-drop}
use Rattle.records.specs.Bytes.{number2, number4, bytes2, bytes4}
use Rattle.records.specs.Record.{whole, opened, body_of, encode_record}
use Rattle.records.proofs.Opening.{opened_whole, opened_within, body_within}
use Rattle.records.proofs.Fields.{Bytes, bytes_append, bytes_drop, bytes_take, bytes_bytes2, bytes_bytes4, number2_bytes2}
use Rattle.records.proofs.Fields.{number4_bytes4, bytes2_number2, bytes4_number4}

pub length_record : (kind : ℕ) (body : List ℕ) → length (encode_record kind body) ≡ 6 + length body
unfolding encode_record bytes4 bytes2
length_record kind body = omega arith

pub length_record_more :
    (kind : ℕ) (body more : List ℕ) → length (encode_record kind body ++ more) ≡ 6 + length body + length more
length_record_more kind body more = rw (length-append, length_record)

pub bytes_record : (kind : ℕ) (body more : List ℕ) → Bytes body → Bytes more → Bytes (encode_record kind body ++ more)
unfolding encode_record
bytes_record kind body more h hs =
    bytes_append (encode_record kind body) more
    (bytes_append (bytes4 (2 + length body)) (bytes2 kind ++ body) (bytes_bytes4 (2 + length body))
    (bytes_append (bytes2 kind) body (bytes_bytes2 kind) h)) hs

pub record_behind : (kind : ℕ) (body more : List ℕ) → drop (6 + length body) (encode_record kind body ++ more) ≡ more
record_behind kind body more = drop_at (encode_record kind body) more (6 + length body) (length_record kind body)

module _ (kind : ℕ) (body more : List ℕ) (short : length body + 2 < 4294967296) (known : kind < 65536) where
  record_split : encode_record kind body ++ more ≡ bytes4 (2 + length body) ++ (bytes2 kind ++ (body ++ more))
  unfolding encode_record
  record_split = simp append_assoc

  record_drops : drop 4 (encode_record kind body ++ more) ≡ bytes2 kind ++ (body ++ more)
  unfolding bytes4 bytes2
  record_drops = ap (drop 4) record_split

  pub record_opens : opened (encode_record kind body ++ more) ≡ whole kind (6 + length body)
  record_opens =
      let b : List ℕ = encode_record kind body ++ more in
      let size : number4 b ≡ 2 + length body = ap number4 record_split ∙ number4_bytes4 _ _ (omega arith) in
      let same : number2 (drop 4 b) ≡ kind = ap number2 record_drops ∙ number2_bytes2 kind _ known in
      let fits : length b ≡ 6 + length body + length more = length_record_more kind body more in
      let end : 4 + number4 b ≡ 6 + length body = omega arith in
      cc (opened_whole b (omega arith) (omega arith))

  pub record_body : body_of (encode_record kind body ++ more) ≡ body
  unfolding bytes4 bytes2
  record_body =
      body_within (encode_record kind body ++ more) record_opens
      ∙ rw record_split (take_at body more (6 + length body - 6) (omega arith))

pub bytes_body : (b : List ℕ) {kind end : ℕ} → opened b ≡ whole kind end → Bytes b → Bytes (body_of b)
bytes_body b {kind} {end} e h = rw (body_within b e) (bytes_take (end - 6) (drop 6 b) (bytes_drop 6 b h))

pub record_encoded :
    (b : List ℕ) {kind end : ℕ} → opened b ≡ whole kind end → Bytes b → encode_record kind (body_of b) ++ drop end b ≡ b
unfolding encode_record
record_encoded b {kind} {end} e h =
    let w = opened_within b kind end e in
    let body : List ℕ = take (end - 6) (drop 6 b) in
    let size : 2 + length body ≡ number4 b = rw (length-take, length-drop) (omega arith) in
    let more : 6 + (end - 6) ≡ end = omega arith in
    let tail : body ++ drop end b ≡ drop 2 (drop 4 b) =
    cc (take-append-drop (end - 6) (drop 6 b), drop-drop (end - 6) 6 b, drop-drop 2 4 b) in
    let kind-first = bytes2_number2 (drop 4 b) (bytes_drop 4 b h) (rw length-drop (omega arith)) in
    rw (body_within b e, size, w.kind_at, append_assoc, append_assoc, tail, kind-first) (bytes4_number4 b h (omega arith))
