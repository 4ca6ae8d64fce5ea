-- Judging and encoding are inverse: a judged table is well-formed and encodes to its bytes, an encoded one is judged; and how long an encoding is.
-- From what a judge has checked (`Checked`) and from records written and read; used for `Held`, for writing, and by the crates above.
use Prim.Native.Nat.{ℕ, zero, suc, ◌+◌, ◌*◌, ◌%◌, ◌≤◌, ◌<◌}
use native.Mathlib.Omega.{arith}
use mathlib.Core.Path.{◌≡◌, refl, sym, ap, ◌∙◌}
use mathlib.Core.List.{List, [], ◌∷◌, ◌++◌}
use lib.ListN.{length, drop, length-drop}
use Rattle.lists.specs.Lists.{All, none, also}
use Rattle.lists.proofs.Elements.{all_map, all_at, all_first, all_rest}
use Rattle.lists.proofs.Rising.{rising_length}
use Rattle.records.specs.Bytes.{fields, number2, numbers}
use Rattle.records.specs.Record.{encode_record, whole, opened, body_of}
use Rattle.records.specs.Read.{Read, found, ◌>>=◌}
use Rattle.records.proofs.Fields.{length_fields, Bytes, bytes_none, bytes_also, bytes_drop, bytes_fields, numbers_step, two_numbers}
use Rattle.records.proofs.Fields.{numbers_end, length_numbers, fields_numbers, numbers_fields, first_field, drop_field, drop_two_fields}
use Rattle.records.proofs.Records.{length_record_more, bytes_record, bytes_body, record_opens, record_body, record_behind}
use Rattle.records.proofs.Records.{record_encoded}
use Rattle.automaton.specs.Automaton.{Rule, WellFormed, Automaton, WellFormedRule}
use Rattle.automaton.specs.Table.{judge_record, size_in, judge_size, rule_in, judge_rule, judge_rules}
use Rattle.automaton.specs.Table.{judge_from_finals, judge_from_ranks, judge, encode_rule, encode_rules, encode}
use Rattle.automaton.specs.Decoded.{size_of}
use Rattle.automaton.specs.declared.table.Size.{Size}
use Rattle.automaton.proofs.Checked.{record_finds, size_checked, size_passes, ranks_checked, ranks_passes, finals_checked}
use Rattle.automaton.proofs.Checked.{finals_passes, RuleChecked, rule_checked, rule_passes, no_rules_found, rules_found}
use Rattle.automaton.proofs.Checked.{finals_found, ranks_found, ranks_sized, table_found}

-- What is judged is well-formed.

module _ (A : Automaton) where
  checked_well_formed : (body : List ℕ) → RuleChecked A.states A.ranks body → WellFormedRule A (rule_in body)
  unfolding rule_in
  checked_well_formed body r =
      let states = rw (numbers_step body 2 (omega arith)) at r.states in
      record {
        symbol = r.symbol;
        arity = rw (length_numbers, length-drop) (omega arith);
        target = all_first states;
        children = all_rest states;
      }

  rules_well_formed :
      (k : ℕ) (b : List ℕ) {us : List Rule} → judge_rules A.states A.ranks k b ≡ found us → All (WellFormedRule A) us
  rules_well_formed zero b h = rw (no_rules_found _ _ b h).1 none
  rules_well_formed (suc k) b h =
      let r = rules_found _ _ k b h in
      rw r.rules (also (checked_well_formed (body_of b) (rule_checked _ _ _ r.first.passes)) (rules_well_formed k _ r.others))

pub judge_well_formed : (b : List ℕ) (A : Automaton) → judge b ≡ found A → WellFormed A
unfolding size_of
judge_well_formed b A h =
    let t = table_found b h in
    let r = ranks_found _ _ t.others in
    let f = finals_found _ _ _ r.others in
    let size = ranks_sized _ _ t.others in
    let counts = size_checked _ t.first.passes in
    let finals = finals_checked _ _ f.first.passes in
    record {
      states = rw (← size) at counts.states;
      symbols = rw (← size) at counts.symbols;
      ranks = rw f.table (ranks_checked _ _ r.first.passes).small;
      finals = rw f.table finals.states;
      rising = rw f.table finals.rises;
      count = rw (← size) at counts.count;
      rules = rw f.table (rules_well_formed _ _ _ f.others);
    }

-- What is judged encodes to its bytes.

-- A record and the bytes after it, its body given as bytes and as fields.
body_encoded :
    (b body more : List ℕ) {kind end : ℕ} → opened b ≡ whole kind end → Bytes b → body ≡ body_of b → more ≡ drop end b
    → encode_record kind body ++ more ≡ b
body_encoded b body more e h read behind = rw (read, behind) (record_encoded b e h)

fields_encoded :
    (b vs more : List ℕ) {kind end : ℕ} → opened b ≡ whole kind end → Bytes b → length (body_of b) % 2 ≡ 0
    → vs ≡ numbers (body_of b) → more ≡ drop end b → encode_record kind (fields vs) ++ more ≡ b
fields_encoded b vs more e h even read =
    body_encoded b (fields vs) more e h (ap fields read ∙ fields_numbers (body_of b) (bytes_body b e h) even)

three_numbers : (b : List ℕ) → length b ≡ 6 → numbers b ≡ number2 b ∷ number2 (drop 2 b) ∷ number2 (drop 4 b) ∷ []
three_numbers b h = rw (two_numbers b (omega arith), numbers_step b 4 (omega arith), numbers_end b 6 (omega arith))

rules_encoded :
    (n : ℕ) (ranks : List ℕ) (k : ℕ) (b : List ℕ) {us : List Rule} → Bytes b → judge_rules n ranks k b ≡ found us
    → encode_rules us ≡ b
unfolding encode_rules encode_rule rule_in
rules_encoded n ranks zero b h e = let r = no_rules_found n ranks b e in rw (r.1, r.0)
rules_encoded n ranks (suc k) b h e =
    let r = rules_found n ranks k b e in
    let u = rule_checked n ranks (body_of b) r.first.passes in
    rw r.rules
    (fields_encoded b _ _ r.first.opens h (omega arith) (sym (two_numbers (body_of b) u.start))
    (rules_encoded n ranks k (drop r.end b) (bytes_drop r.end b h) r.others))

pub encode_judge : (b : List ℕ) (A : Automaton) → Bytes b → judge b ≡ found A → encode A ≡ b
unfolding encode size_of size_in
encode_judge b A h e =
    let t = table_found b e in
    let b₁ : List ℕ = drop t.end b in
    let r = ranks_found _ b₁ t.others in
    let b₂ : List ℕ = drop r.end b₁ in
    let f = finals_found _ _ b₂ r.others in
    let size = ranks_sized _ b₁ t.others in
    let six = (size_checked _ t.first.passes).size in
    let h₁ : Bytes b₁ = bytes_drop t.end b h in
    let h₂ : Bytes b₂ = bytes_drop r.end b₁ h₁ in
    let in_rules : encode_rules A.rules ≡ drop f.end b₂ =
    ap (λ (X : Automaton). encode_rules X.rules) f.table
    ∙ rules_encoded _ _ _ (drop f.end b₂) (bytes_drop f.end b₂ h₂) f.others in
    let in_finals : encode_record 3 (fields A.finals) ++ encode_rules A.rules ≡ b₂ =
    fields_encoded b₂ _ _ f.first.opens h₂ (finals_checked _ _ f.first.passes).even
    (ap (λ (X : Automaton). X.finals) f.table) in_rules in
    let in_ranks : encode_record 2 A.ranks ++ (encode_record 3 (fields A.finals) ++ encode_rules A.rules) ≡ b₁ =
    body_encoded b₁ _ _ r.first.opens h₁ (ap (λ (X : Automaton). X.ranks) f.table) in_finals in
    fields_encoded b _ _ t.first.opens h (omega arith)
    (ap (λ (s : Size). s.states ∷ s.symbols ∷ s.rules ∷ []) size ∙ sym (three_numbers (body_of b) six)) in_ranks

-- What is encoded is judged.

children_few : (A : Automaton) (u : Rule) → WellFormed A → WellFormedRule A u → length u.children ≤ 8
children_few A u w r = omega (arith, all_at w.ranks u.symbol r.symbol)

states_read : (n : ℕ) {qs : List ℕ} → n ≤ 256 → All (λ (q : ℕ). q < n) qs → numbers (fields qs) ≡ qs
states_read n h hs = numbers_fields (all_map (λ (q : ℕ) (l : q < n). omega arith) hs)

-- A record whose body passes.
record_judged :
    (kind missing : ℕ) (judgeBody : List ℕ → Read (Unit {0})) (body more : List ℕ) → length body + 2 < 4294967296 → kind < 65536
    → judgeBody body ≡ found tt → judge_record kind missing judgeBody (encode_record kind body ++ more) ≡ found (6 + length body)
record_judged kind missing judgeBody body more short known passes =
    record_finds kind missing judgeBody _
    (record { opens = record_opens kind body more short known; passes = rw (record_body kind body more short known) passes })

module _ (A : Automaton) (w : WellFormed A) where
  rule_judged : (u : Rule) → WellFormedRule A u
      → let body = fields (u.symbol ∷ u.target ∷ u.children) in
      (judge_rule A.states A.ranks body ≡ found tt) × (rule_in body ≡ u)
  unfolding rule_in
  rule_judged u r =
      let body : List ℕ = fields (u.symbol ∷ u.target ∷ u.children) in
      let states : All (λ (q : ℕ). q < A.states) (u.target ∷ u.children) = also r.target r.children in
      let size : length body ≡ 2 * length (u.symbol ∷ u.target ∷ u.children) = length_fields _ in
      let symbol : number2 body ≡ u.symbol = first_field _ _ (omega arith) in
      let target : number2 (drop 2 body) ≡ u.target = rw drop_field (first_field _ _ (omega arith)) in
      let children : numbers (drop 4 body) ≡ u.children =
      rw drop_two_fields (states_read A.states w.states r.children) in (
        rule_passes _ _ _ (record {
          start = omega arith;
          symbol = rw symbol r.symbol;
          size = rw symbol (omega arith);
          states = rw (drop_field, states_read A.states w.states states) states;
        }),
        rw (symbol, target, children),
      )

  rules_judged : {us : List Rule} → All (WellFormedRule A) us
      → judge_rules A.states A.ranks (length us) (encode_rules us) ≡ found us
  unfolding judge_rules encode_rules encode_rule ◌>>=◌
  rules_judged none = refl
  rules_judged (also {x = u} {xs = us} r rs) =
      let body : List ℕ = fields (u.symbol ∷ u.target ∷ u.children) in
      let more : List ℕ = encode_rules us in
      let short : length body + 2 < 4294967296 = rw length_fields (omega (arith, children_few A u w r)) in
      let (passes, is) = rule_judged u r in
      rw (
        record_judged 4 7 _ body more short (omega arith) passes,
        record_behind 4 body more,
        rules_judged rs,
        record_body 4 body more short (omega arith),
        is,
      )

  finals_judged :
      judge_from_finals (size_of A) A.ranks (encode_record 3 (fields A.finals) ++ encode_rules A.rules) ≡ found A
  unfolding judge_from_finals size_of ◌>>=◌
  finals_judged =
      let body : List ℕ = fields A.finals in
      let more : List ℕ = encode_rules A.rules in
      let short : length body + 2 < 4294967296 = rw length_fields (omega (arith, rising_length w.rising w.finals)) in
      let read : numbers body ≡ A.finals = states_read _ w.states w.finals in
      let passes = finals_passes A.states body (record {
        even = rw length_fields (omega arith);
        states = rw read w.finals;
        rises = rw read w.rising;
      }) in
      rw (
        record_judged 3 2 _ body more short (omega arith) passes,
        record_behind 3 body more,
        rules_judged w.rules,
        record_body 3 body more short (omega arith),
        read,
      )

  ranks_judged :
      judge_from_ranks (size_of A)
      (encode_record 2 A.ranks ++ (encode_record 3 (fields A.finals) ++ encode_rules A.rules)) ≡ found A
  unfolding judge_from_ranks size_of ◌>>=◌
  ranks_judged =
      let more : List ℕ = encode_record 3 (fields A.finals) ++ encode_rules A.rules in
      let short : length A.ranks + 2 < 4294967296 = omega arith in
      let passes = ranks_passes (length A.ranks) A.ranks (record { count = refl; small = w.ranks }) in
      rw (
        record_judged 2 2 _ A.ranks more short (omega arith) passes,
        record_behind 2 A.ranks more,
        record_body 2 A.ranks more short (omega arith),
      ) finals_judged

  size_judged : let body = fields (A.states ∷ length A.ranks ∷ length A.rules ∷ []) in
      (judge_size body ≡ found tt) × (size_in body ≡ size_of A)
  unfolding size_in size_of
  size_judged =
      let body : List ℕ = fields (A.states ∷ length A.ranks ∷ length A.rules ∷ []) in
      let states : number2 body ≡ A.states = first_field _ _ (omega arith) in
      let symbols : number2 (drop 2 body) ≡ length A.ranks = rw drop_field (first_field _ _ (omega arith)) in
      let count : number2 (drop 4 body) ≡ length A.rules = rw drop_two_fields (first_field _ _ (omega arith)) in (
        size_passes body (record { size = length_fields _; states = omega arith; symbols = omega arith; count = omega arith }),
        rw (states, symbols, count),
      )

pub judge_encode : (A : Automaton) → WellFormed A → judge (encode A) ≡ found A
unfolding judge encode ◌>>=◌
judge_encode A w =
    let body : List ℕ = fields (A.states ∷ length A.ranks ∷ length A.rules ∷ []) in
    let more : List ℕ = encode_record 2 A.ranks ++ (encode_record 3 (fields A.finals) ++ encode_rules A.rules) in
    let short : length body + 2 < 4294967296 = rw length_fields (omega arith) in
    let (passes, is) = size_judged A w in
    rw (
      record_judged 1 2 _ body more short (omega arith) passes,
      record_behind 1 body more,
      record_body 1 body more short (omega arith),
      is,
    ) (ranks_judged A w)

-- The encoding is bytes.

bytes_ranks : {rs : List ℕ} → All (λ (r : ℕ). r ≤ 8) rs → Bytes rs
bytes_ranks none = bytes_none
bytes_ranks (also {x = r} {xs = rs} h hs) = bytes_also r rs (omega arith) (bytes_ranks hs)

bytes_rules : (us : List Rule) → Bytes (encode_rules us)
unfolding encode_rules encode_rule
bytes_rules [] = bytes_none
bytes_rules (u ∷ us) =
    let vs : List ℕ = u.symbol ∷ u.target ∷ u.children in
    bytes_record 4 (fields vs) (encode_rules us) (bytes_fields vs) (bytes_rules us)

pub encode_bytes : (A : Automaton) → WellFormed A → Bytes (encode A)
unfolding encode
encode_bytes A w =
    let counts : List ℕ = A.states ∷ length A.ranks ∷ length A.rules ∷ [] in
    let b₃ : List ℕ = encode_rules A.rules in
    let b₂ : List ℕ = encode_record 3 (fields A.finals) ++ b₃ in
    bytes_record 1 (fields counts) (encode_record 2 A.ranks ++ b₂) (bytes_fields counts)
    (bytes_record 2 A.ranks b₂ (bytes_ranks w.ranks)
    (bytes_record 3 (fields A.finals) b₃ (bytes_fields A.finals) (bytes_rules A.rules)))

-- How long the encoding is: a rule takes 10 to 26 bytes, a table 24 to 27,416.

pub length_rules : (u : Rule) (us : List Rule)
    → length (encode_rules (u ∷ us)) ≡ 10 + 2 * length u.children + length (encode_rules us)
unfolding encode_rules encode_rule
length_rules u us = rw (length_record_more, length_fields) (omega arith)

pub length_encode : (A : Automaton)
    → length (encode A) ≡ 24 + length A.ranks + 2 * length A.finals + length (encode_rules A.rules)
unfolding encode
length_encode A = simp (length_record_more, length_fields) (omega arith)

rules_most : (A : Automaton) {us : List Rule} → WellFormed A → All (WellFormedRule A) us → length (encode_rules us) ≤ 26 * length us
unfolding encode_rules
rules_most A w none = omega arith
rules_most A w (also {x = u} {xs = us} r rs) = omega (arith, length_rules u us, children_few A u w r, rules_most A w rs)

rules_least : (us : List Rule) → 10 * length us ≤ length (encode_rules us)
unfolding encode_rules
rules_least [] = omega arith
rules_least (u ∷ us) = omega (arith, length_rules u us, rules_least us)

pub encode_length : (A : Automaton) → WellFormed A → (24 ≤ length (encode A)) × (length (encode A) ≤ 27416)
encode_length A w =
    let size = length_encode A in
    omega (arith, rules_most A w w.rules, rising_length w.rising w.finals)

pub table_least : (A : Automaton) → 10 * length A.rules ≤ length (encode A)
table_least A = omega (arith, length_encode A, rules_least A.rules)
