-- How long a rule is, and a table as its first three records and then its rules: what the proofs of the functions that judge and decode share.
use Prim.Native.Nat.{ℕ, ◌-◌, ◌≤◌}
use native.Mathlib.Omega.{arith}
use mathlib.Core.Path.{◌≡◌, refl, ap, ◌∙◌}
use mathlib.Core.List.{List}
use lib.ListN.{length, length-drop, length-take}
use Rattle.records.specs.Record.{body_of}
use Rattle.records.specs.Read.{Read, found, refused, ◌>>=◌, map_read}
use Rattle.records.specs.Bytes.{numbers}
use Rattle.records.proofs.Opening.{body_within}
use Rattle.records.proofs.Reading.{bind_found, found_same}
use Rattle.automaton.specs.Automaton.{Rule}
use Rattle.automaton.specs.Table.{judge_record, judge_rule, judge_rules, judge_from_finals, judge_from_ranks, judge}
use Rattle.automaton.specs.Decoded.{size_of, sized}
use Rattle.automaton.specs.Inner.{passing, Parts, judge_head, judge_behind}
use Rattle.automaton.proofs.Checked.{record_found, size_checked, RanksChecked, ranks_checked, FinalsChecked, finals_checked}
use Rattle.automaton.proofs.Checked.{rule_checked, rules_count}

pub passing_map : {A B : Type 0} (f : A → B) (x : Read A) → passing (x >>= (λ (a : A). found (f a))) ≡ passing x
unfolding passing map_read ◌>>=◌
passing_map f (found a) = refl
passing_map f (refused c) = refl

-- A rule takes ten bytes at least.
pub rule_long : (n : ℕ) (ranks b : List ℕ) {end : ℕ} → judge_record 4 7 (judge_rule n ranks) b ≡ found end → 10 ≤ end
rule_long n ranks b {end} h =
    let r = record_found 4 7 (judge_rule n ranks) b h in
    let some : length (body_of b) ≤ end - 6 = rw (body_within b r.opens, length-take) (omega arith) in
    omega (arith, (rule_checked n ranks (body_of b) r.passes).start)

-- A table is its first three records, its head, and then its rules.

bind_along : {A B C : Type 0} (x : Read A) (f : A → Read B) (g : B → Read C) (h : A → Read C) → ((a : A) → h a ≡ f a >>= g)
    → x >>= h ≡ x >>= f >>= g
unfolding ◌>>=◌
bind_along (found a) f g h same = same a
bind_along (refused cause) f g h same = refl

bind_here : {A B : Type 0} (a : A) (g : A → Read B) → g a ≡ found a >>= g
unfolding ◌>>=◌
bind_here a g = refl

pub judge_in_parts : (b : List ℕ) → judge b ≡ judge_head b >>= judge_behind
unfolding judge judge_from_ranks judge_from_finals judge_head judge_behind
judge_in_parts b =
    bind_along _ _ _ _ (λ size_end. bind_along _ _ _ _ (λ ranks_end. bind_along _ _ _ _ (λ finals_end. bind_here _ judge_behind)))

-- What a head that was found has checked.
pub record HeadFound (b : List ℕ) (p : Parts) : Type 0 where
  pub states : p.size.states ≤ 256
  pub symbols : p.size.symbols ≤ 256
  pub count : p.size.rules ≤ 1024
  pub ranks : RanksChecked p.size.symbols p.ranks
  pub finals : FinalsChecked p.size.states p.finals
  pub behind : length p.rules ≤ length b

pub head_found : (b : List ℕ) (p : Parts) → judge_head b ≡ found p → HeadFound b p
unfolding judge_head
head_found b p h =
    let c₁ = bind_found _ _ h in
    let c₂ = bind_found _ _ c₁.2 in
    let c₃ = bind_found _ _ c₂.2 in
    let size = size_checked _ (record_found 1 2 _ b c₁.1).passes in
    rw (← found_same c₃.2) (record {
      states = size.states;
      symbols = size.symbols;
      count = size.count;
      ranks = ranks_checked _ _ (record_found 2 2 _ _ c₂.1).passes;
      finals = finals_checked _ _ (record_found 3 2 _ _ c₃.1).passes;
      behind = rw (length-drop, length-drop, length-drop) (omega arith);
    })

-- The rules behind a head that was found decide.
module _ (b : List ℕ) (p : Parts) (h : judge_head b ≡ found p) where
  rest_judged : judge b ≡ judge_behind p
  unfolding ◌>>=◌
  rest_judged = judge_in_parts b ∙ ap (λ (x : Read Parts). x >>= judge_behind) h

  pub rest_refused : {cause : ℕ} → judge_rules p.size.states p.ranks p.size.rules p.rules ≡ refused cause → judge b ≡ refused cause
  unfolding judge_behind ◌>>=◌
  rest_refused r = rw rest_judged (rw r)

  pub rest_found : {rules : List Rule} → judge_rules p.size.states p.ranks p.size.rules p.rules ≡ found rules
      → judge b ≡ found (record { states = p.size.states; ranks = p.ranks; finals = numbers p.finals; rules = rules })
  unfolding judge_behind ◌>>=◌
  rest_found r = rw rest_judged (rw r)

  pub rest_sized : {rules : List Rule} → judge_rules p.size.states p.ranks p.size.rules p.rules ≡ found rules → sized (judge b) ≡ found p.size
  unfolding sized size_of map_read
  rest_sized r = rw (rest_found r, (head_found b p h).ranks.count, rules_count _ _ _ _ r)

-- A head that was refused.
pub head_refused : (b : List ℕ) {cause : ℕ} → judge_head b ≡ refused cause → judge b ≡ refused cause
unfolding ◌>>=◌
head_refused b h = judge_in_parts b ∙ ap (λ (x : Read Parts). x >>= judge_behind) h
