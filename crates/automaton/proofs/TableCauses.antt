-- A table is refused with one of document 01's numbers 1 to 7. By `search`, line by line of the definitions; used for the theorem on `judge` and
-- for the causes of the calls that start with a table.
use Prim.Native.Nat.{ℕ, zero, suc, ◌≤◌}
use mathlib.Core.Path.{◌≡◌}
use mathlib.Core.Logic.{◌⊎◌, inl}
use mathlib.Core.List.{List, [], ◌∷◌}
use mathlib.Core.Bool.{Bool, true, false, cond}
use Rattle.records.specs.Record as records
use Rattle.records.specs.Record.{whole, is_whole, opened}
use Rattle.records.specs.Read.{Read}
use Rattle.records.proofs.Causes.{Causes, causes, finds, refuses, wider_causes}
use Rattle.automaton.specs.Table.{due, judge_record, judge_size, judge_ranks, judge_finals, judge_rule, judge_rules, judge_from_finals}
use Rattle.automaton.specs.Table.{judge_from_ranks, judge}

abbrev pub TableCause : ℕ → Type 0
TableCause cause = (1 ≤ cause) × (cause ≤ 7)

due_causes : (kind missing : ℕ) (b : List ℕ) → TableCause missing → Causes TableCause (due kind missing (opened b))
unfolding due opened
due_causes kind missing [] p = refuses p
due_causes kind missing (x ∷ b) p = go (is_whole (x ∷ b)) _ _
  where
    go : (t : Bool) (k end : ℕ) → Causes TableCause (due kind missing (cond t (whole k end) (records.refused 1)))
    go true k end = search causes
    go false k end = search causes

record_causes : (kind missing : ℕ) (judgeBody : List ℕ → Read (Unit {0})) (b : List ℕ) → TableCause missing
    → ((body : List ℕ) → Causes TableCause (judgeBody body)) → Causes TableCause (judge_record kind missing judgeBody b)
unfolding judge_record
record_causes kind missing judgeBody b p body = search (causes, due_causes, body)

rule_causes : (n : ℕ) (ranks body : List ℕ) → Causes TableCause (judge_rule n ranks body)
unfolding judge_rule
rule_causes n ranks body = search causes depth 9

rules_causes : (n : ℕ) (ranks : List ℕ) (k : ℕ) (b : List ℕ) → Causes TableCause (judge_rules n ranks k b)
unfolding judge_rules
rules_causes n ranks zero [] = finds
rules_causes n ranks zero (x ∷ b) = search (causes, due_causes)
rules_causes n ranks (suc k) b =
    let others = rules_causes n ranks k in search (causes, record_causes, rule_causes, others) depth 9

pub table_causes : (b : List ℕ) → Causes TableCause (judge b)
unfolding judge judge_from_ranks judge_from_finals judge_size judge_ranks judge_finals
table_causes b = search (causes, record_causes, rules_causes) depth 16

-- Those, or one more, of what follows a table.
abbrev pub TableCauseOr : ℕ → ℕ → Type 0
TableCauseOr other cause = TableCause cause ⊎ (cause ≡ other)

pub table_causes_or : (other : ℕ) (b : List ℕ) → Causes (TableCauseOr other) (judge b)
table_causes_or other b = wider_causes (λ cause. inl) (table_causes b)
