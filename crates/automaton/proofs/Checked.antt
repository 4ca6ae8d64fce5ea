-- What a judge that finds something has checked: every step before a `found` has passed, and each test is a fact (`-checked` of a body, `-found` of
-- what starts with a record). The other way round, a body of which the facts hold passes (`-passes`), and so does its record (`record_finds`).
-- From the laws of readings; used for the encoding of a table and by the code that judges and decodes.
use Prim.Native.Nat.{ℕ, zero, suc, ◌+◌, ◌*◌, ◌%◌, ◌≤◌, ◌<◌}
use mathlib.Core.Path.{◌≡◌, refl, sym, ap, ◌∙◌}
use mathlib.Core.List.{List, [], ◌∷◌}
use lib.ListN.{length, drop, get_or}
use lib.Dec.{leb, eqb}
use borrow.Author.Tests.{ltb-true, leb-true, eqb-true, lt-ltb, le-leb, eq-eqb}
use Rattle.lists.specs.Lists.{All, Rising}
use Rattle.lists.proofs.Elements.{All→all, all_below, all→All, below_all}
use Rattle.lists.proofs.Rising.{Rising→rising, rising→Rising}
use Rattle.records.specs.Record as records
use Rattle.records.specs.Bytes.{number2, numbers}
use Rattle.records.specs.Record.{Opening, whole, nothing, opened, body_of}
use Rattle.records.specs.Read.{Read, found, ◌>>=◌, ◌>>◌, check}
use Rattle.records.proofs.Opening.{opened_within}
use Rattle.records.proofs.Reading.{bind_found, check_found, checked, found_same, refused≢found, then_found}
use Rattle.automaton.specs.Automaton.{Rule, Automaton}
use Rattle.automaton.specs.Table.{due, judge_record, size_in, judge_size, judge_ranks, judge_finals, rule_in, judge_rule, judge_rules}
use Rattle.automaton.specs.Table.{judge_from_finals, judge_from_ranks, judge}
use Rattle.automaton.specs.Decoded.{size_of}
use Rattle.automaton.specs.declared.table.Size.{Size}

-- A record of some kind whose body passed a judge, and where it ends.

pub due_found : (kind missing : ℕ) (o : Opening) {end : ℕ} → due kind missing o ≡ found end → o ≡ whole kind end
unfolding due
due_found kind missing (whole k e) h =
    let c = checked (eqb k kind) 2 (found e) h in
    cc (eqb-true k kind c.0, found_same c.1)
due_found kind missing nothing h = absurd (refused≢found h)
due_found kind missing (records.refused cause) h = absurd (refused≢found h)

due_finds : (kind missing : ℕ) (o : Opening) {end : ℕ} → o ≡ whole kind end → due kind missing o ≡ found end
unfolding due check ◌>>◌
due_finds kind missing o e = rw (e, due, eq-eqb kind kind refl)

pub record PassedRecord (kind : ℕ) (judgeBody : List ℕ → Read (Unit {0})) (b : List ℕ) (end : ℕ) : Type 0 where
  pub opens : opened b ≡ whole kind end
  pub passes : judgeBody (body_of b) ≡ found tt

module _ (kind missing : ℕ) (judgeBody : List ℕ → Read (Unit {0})) (b : List ℕ) {end : ℕ} where
  pub record_found : judge_record kind missing judgeBody b ≡ found end → PassedRecord kind judgeBody b end
  unfolding judge_record
  record_found h =
      let c = bind_found _ _ h in
      let d = then_found _ _ c.2 in
      record { opens = due_found kind missing (opened b) (rw (found_same d.2) at c.1); passes = d.1 }

  pub record_within : judge_record kind missing judgeBody b ≡ found end → end ≤ length b
  record_within h = (opened_within b kind end (record_found h).opens).stop

  pub record_finds : PassedRecord kind judgeBody b end → judge_record kind missing judgeBody b ≡ found end
  unfolding judge_record ◌>>◌ ◌>>=◌
  record_finds r = rw (due_finds kind missing (opened b) r.opens, r.passes)

-- Bodies: what each judge has checked.

pub record SizeChecked (body : List ℕ) : Type 0 where
  pub size : length body ≡ 6
  pub states : (size_in body).states ≤ 256
  pub symbols : (size_in body).symbols ≤ 256
  pub count : (size_in body).rules ≤ 1024

pub size_checked : (body : List ℕ) → judge_size body ≡ found tt → SizeChecked body
unfolding judge_size
size_checked body h =
    let c₁ = checked _ _ _ h in
    let c₂ = checked _ _ _ c₁.1 in
    let c₃ = checked _ _ _ c₂.1 in
    record {
      size = eqb-true _ _ c₁.0;
      states = leb-true _ _ c₂.0;
      symbols = leb-true _ _ c₃.0;
      count = leb-true _ _ (check_found _ _ c₃.1);
    }

pub size_passes : (body : List ℕ) → SizeChecked body → judge_size body ≡ found tt
unfolding judge_size check ◌>>◌
size_passes body c =
    rw (eq-eqb _ _ c.size, le-leb _ _ c.states, le-leb _ _ c.symbols, le-leb _ _ c.count)

pub record RanksChecked (m : ℕ) (body : List ℕ) : Type 0 where
  pub count : length body ≡ m
  pub small : All (λ (r : ℕ). r ≤ 8) body

pub ranks_checked : (m : ℕ) (body : List ℕ) → judge_ranks m body ≡ found tt → RanksChecked m body
unfolding judge_ranks
ranks_checked m body h =
    let c = checked _ _ _ h in
    record {
      count = eqb-true _ _ c.0;
      small = all→All (λ (r : ℕ). leb r 8) (λ (r : ℕ). r ≤ 8) (λ r. leb-true r 8) _ (check_found _ _ c.1);
    }

pub ranks_passes : (m : ℕ) (body : List ℕ) → RanksChecked m body → judge_ranks m body ≡ found tt
unfolding judge_ranks check ◌>>◌
ranks_passes m body c =
    rw (eq-eqb _ _ c.count, All→all (λ (r : ℕ). leb r 8) (λ (r : ℕ). r ≤ 8) (λ r. le-leb r 8) c.small)

pub record FinalsChecked (n : ℕ) (body : List ℕ) : Type 0 where
  pub even : length body % 2 ≡ 0
  pub states : All (λ (q : ℕ). q < n) (numbers body)
  pub rises : Rising (numbers body)

pub finals_checked : (n : ℕ) (body : List ℕ) → judge_finals n body ≡ found tt → FinalsChecked n body
unfolding judge_finals
finals_checked n body h =
    let c₁ = checked _ _ _ h in
    let c₂ = checked _ _ _ c₁.1 in
    record {
      even = eqb-true _ _ c₁.0;
      states = all_below _ _ c₂.0;
      rises = rising→Rising _ (check_found _ _ c₂.1);
    }

pub finals_passes : (n : ℕ) (body : List ℕ) → FinalsChecked n body → judge_finals n body ≡ found tt
unfolding judge_finals check ◌>>◌
finals_passes n body c = rw (eq-eqb _ _ c.even, below_all n c.states, Rising→rising c.rises)

pub record RuleChecked (n : ℕ) (ranks body : List ℕ) : Type 0 where
  pub start : 4 ≤ length body
  pub symbol : number2 body < length ranks
  pub size : length body ≡ 4 + 2 * get_or ranks (number2 body) 0
  pub states : All (λ (q : ℕ). q < n) (numbers (drop 2 body))

pub rule_checked : (n : ℕ) (ranks body : List ℕ) → judge_rule n ranks body ≡ found tt → RuleChecked n ranks body
unfolding judge_rule
rule_checked n ranks body h =
    let c₁ = checked _ _ _ h in
    let c₂ = checked _ _ _ c₁.1 in
    let c₃ = checked _ _ _ c₂.1 in
    record {
      start = leb-true _ _ c₁.0;
      symbol = ltb-true _ _ c₂.0;
      size = eqb-true _ _ c₃.0;
      states = all_below _ _ (check_found _ _ c₃.1);
    }

pub rule_passes : (n : ℕ) (ranks body : List ℕ) → RuleChecked n ranks body → judge_rule n ranks body ≡ found tt
unfolding judge_rule check ◌>>◌
rule_passes n ranks body c =
    rw (le-leb _ _ c.start, lt-ltb _ _ c.symbol, eq-eqb _ _ c.size, below_all n c.states)

-- A table and its parts: the first record, and what was found after it.

pub record RulesFound (n : ℕ) (ranks : List ℕ) (k : ℕ) (b : List ℕ) (us : List Rule) : Type 0 where
  pub end : ℕ
  pub first : PassedRecord 4 (judge_rule n ranks) b end
  pub rest : List Rule
  pub others : judge_rules n ranks k (drop end b) ≡ found rest
  pub rules : us ≡ rule_in (body_of b) ∷ rest

pub record FinalsFound (size : Size) (ranks b : List ℕ) (A : Automaton) : Type 0 where
  pub end : ℕ
  pub first : PassedRecord 3 (judge_finals size.states) b end
  pub rules : List Rule
  pub others : judge_rules size.states ranks size.rules (drop end b) ≡ found rules
  pub table : A ≡ record { states = size.states; ranks = ranks; finals = numbers (body_of b); rules = rules }

pub record RanksFound (size : Size) (b : List ℕ) (A : Automaton) : Type 0 where
  pub end : ℕ
  pub first : PassedRecord 2 (judge_ranks size.symbols) b end
  pub others : judge_from_finals size (body_of b) (drop end b) ≡ found A

pub record TableFound (b : List ℕ) (A : Automaton) : Type 0 where
  pub end : ℕ
  pub first : PassedRecord 1 judge_size b end
  pub others : judge_from_ranks (size_in (body_of b)) (drop end b) ≡ found A

module _ (n : ℕ) (ranks : List ℕ) where
  pub no_rules_found : (b : List ℕ) {us : List Rule} → judge_rules n ranks zero b ≡ found us → (b ≡ []) × (us ≡ [])
  unfolding judge_rules
  no_rules_found [] h = (refl, sym (found_same h))
  no_rules_found (x ∷ b) h = absurd (refused≢found (then_found _ _ h).2)

  pub rules_found : (k : ℕ) (b : List ℕ) {us : List Rule} → judge_rules n ranks (suc k) b ≡ found us → RulesFound n ranks k b us
  unfolding judge_rules
  rules_found k b h =
      let c = bind_found _ _ h in
      let d = bind_found _ _ c.2 in
      record {
        end = c.0;
        first = record_found 4 7 _ b c.1;
        rest = d.0;
        others = d.1;
        rules = sym (found_same d.2);
      }

  pub rules_count : (k : ℕ) (b : List ℕ) {us : List Rule} → judge_rules n ranks k b ≡ found us → length us ≡ k
  rules_count zero b h = ap length (no_rules_found b h).1
  rules_count (suc k) b h =
      let c = rules_found k b h in
      ap length c.rules ∙ ap suc (rules_count k (drop c.end b) c.others)

pub finals_found : (size : Size) (ranks b : List ℕ) {A : Automaton} → judge_from_finals size ranks b ≡ found A → FinalsFound size ranks b A
unfolding judge_from_finals
finals_found size ranks b h =
    let c = bind_found _ _ h in
    let d = bind_found _ _ c.2 in
    record {
      end = c.0;
      first = record_found 3 2 _ b c.1;
      rules = d.0;
      others = d.1;
      table = sym (found_same d.2);
    }

pub ranks_found : (size : Size) (b : List ℕ) {A : Automaton} → judge_from_ranks size b ≡ found A → RanksFound size b A
unfolding judge_from_ranks
ranks_found size b h =
    let c = bind_found _ _ h in
    record { end = c.0; first = record_found 2 2 _ b c.1; others = c.2 }

pub table_found : (b : List ℕ) {A : Automaton} → judge b ≡ found A → TableFound b A
unfolding judge
table_found b h =
    let c = bind_found _ _ h in
    record { end = c.0; first = record_found 1 2 _ b c.1; others = c.2 }

-- What is found has the counts that it was judged by.
pub ranks_sized : (size : Size) (b : List ℕ) {A : Automaton} → judge_from_ranks size b ≡ found A → size_of A ≡ size
unfolding size_of
ranks_sized size b h =
    let r = ranks_found size b h in
    let f = finals_found size (body_of b) (drop r.end b) r.others in
    rw (f.table, (ranks_checked _ _ r.first.passes).count, rules_count _ _ _ _ f.others)
